use Rattle.std.proofs.Common.{◌≡◌, ◌-◌, ◌<◌, ℤ, pos, ◌-ℤ◌, ◌≤ℤ◌, sym, refl, subst, arith, w32, to_z, of_z}
use borrow.Author.Differences.{up, down}
use Rattle.std.proofs.lemmas.Int.{ints}
use Rattle.routing.proofs.Passing.{passed_facts}
use Rattle.filling.specs.Fillings.{none}
use Rattle.filling.proofs.Rounding.{positive}
use Rattle.filling.proofs.Filled.{passed_usable, rest_passes, fills_some, fills_usable, fills_more}
use Rattle.filling.proofs.fill.round.Goals as goal
use Rattle.filling.proofs.fill.round.Goals.{In-Ok}

-- what is left to send, as it is counted
less : (left x : ℤ) → pos 1 ≤ℤ x → x ≤ℤ left → left ≤ℤ pos 1000000 → to_z w32 (of_z w32 (to_z w32 (of_z w32 left) -ℤ to_z w32 (of_z w32 x))) ≡ left -ℤ x
less left x h k l = omega (arith, ints)

falls : (left x : ℤ) → pos 1 ≤ℤ x → x ≤ℤ left → up (left -ℤ x) - down (left -ℤ x) < up left - down left
falls left x h k = omega (arith, ints)

-- the part of what is left that is sent
record Part (left x : ℤ) : Type 0 where
  some : pos 1 ≤ℤ x
  most : x ≤ℤ left
  small : left ≤ℤ pos 1000000

part : (c : In-Ok) → Part c.loop-rest.rest.amount c.in-Ok.x
part c =
    let p = passed_facts c.args.lines.now c.args.payment c.args.plan.now c.requires.checks in
    record {
      some = fills_some _ _ _ _ _ _ c.in-Ok.ensures (positive c.args.least c.requires.least);
      most = c.in-Ok.ensures.2.amount.most;
      small = omega (arith, ints, c.loop-rest.invariant.high, p.high);
    }

pub loop-rest-init : goal.loop-rest-init
loop-rest-init c =
    let p = passed_facts c.args.lines.now c.args.payment c.args.plan.now c.requires.checks in
    record { fillings = none; payer = refl; payee = refl; checks = λ _. c.requires.checks; low = omega (arith, ints, p.low); high = omega (arith, ints) }

pub overflow_sub-rest : goal.overflow_sub-rest
overflow_sub-rest c = let p = part (goal.at.overflow_sub-rest c).In-Ok in omega (arith, ints, p.some, p.most, p.small)

pub loop-rest-smaller : goal.loop-rest-smaller
loop-rest-smaller c =
    let p = part (goal.at.loop-rest-smaller c).In-Ok in
    subst (λ t. up t - down t < up c.loop-rest.rest.amount - down c.loop-rest.rest.amount) (sym (less c.loop-rest.rest.amount c.in-Ok.x p.some p.most p.small)) (falls c.loop-rest.rest.amount c.in-Ok.x p.some p.most)

pub loop-rest-preserved : goal.loop-rest-preserved
loop-rest-preserved c =
    let v = c.loop-rest.invariant in
    let ls = c.args.lines.now in
    let rest = c.loop-rest.rest in
    let x = c.in-Ok.x in
    let p = part (goal.at.loop-rest-preserved c).In-Ok in
    let k = v.checks (omega (arith, ints, p.some, p.most)) in
    let u = fills_usable _ _ _ _ _ _ c.in-Ok.ensures (positive c.args.least c.requires.least) (passed_usable ls rest c.loop-rest.plan k) in
    rw (less rest.amount x p.some p.most p.small) (record {
      fillings = rw (sym v.payer, sym v.payee) (fills_more _ _ _ _ _ _ _ _ (rw (v.payer, v.payee) v.fillings) c.in-Ok.ensures);
      payer = v.payer;
      payee = v.payee;
      checks = λ low. rest_passes ls rest (record rest { amount = rest.amount -ℤ x }) c.loop-rest.plan c.fill_next.new.plan k refl refl low (omega (arith, ints, p.some)) u;
      low = omega (arith, ints, p.most);
      high = omega (arith, ints, p.some, v.high);
    })
