use Rattle.std.proofs.Common.{◌≡◌, ℤ, pos, ◌≤ℤ◌, refl, inr, arith, w32, to_z, of_z}
use Rattle.std.proofs.lemmas.Int.{ints}
use Rattle.filling.specs.Fillings.{Fillings, Closed, last, next}
use Rattle.filling.proofs.Filled.{passed_usable, rest_passes}
use Rattle.routing.proofs.Passing.{passed_facts}
use Rattle.filling.proofs.Rounding.{half_some, halved_some, halved_none, all_sent, positive, fillings_usable}
use Rattle.filling.proofs.rounds.rounds.Goals as goal
use Rattle.filling.proofs.rounds.rounds.Goals.{In-Err}

-- a small number as it is kept
keeps : (s n : ℤ) → pos 1 ≤ℤ s → s ≤ℤ n → n ≤ℤ pos 1000000 → to_z w32 (of_z w32 s) ≡ s
keeps s n h k l = omega (arith, ints)

pub returns : goal.returns
returns c =
    let v = c.loop-short.invariant in
    v.onward (pos 0) c.round.new.plan (all_sent _ _ _ c.loop-short.least _ _ _ v.least (rw (v.payer, v.payee) at c.in_default.ensures))

-- how a round with something left ends, said of the whole payment
short : (c : In-Err) → Fillings c.args.lines.now c.args.payment.payer c.args.payment.payee (pos c.loop-short.least) c.loop-short.rest.amount c.loop-short.plan c.in-Err.short.left c.round.new.plan
    × (pos 1 ≤ℤ c.in-Err.short.left) × (c.in-Err.short.left ≤ℤ c.loop-short.rest.amount) × Closed c.args.lines.now c.args.payment.payer c.args.payment.payee (pos c.loop-short.least) c.round.new.plan c.in-Err.short.group.bits
short c = rw (c.loop-short.invariant.payer, c.loop-short.invariant.payee) at c.in-Err.ensures

pub returns-in_default-halved : goal.returns-in_default-halved
returns-in_default-halved c =
    let v = c.loop-short.invariant in
    let f = short (goal.at.returns-in_default-halved c).In-Err in
    let g = rw (halved_none c.loop-short.least v.least c.in_default-halved.ensures) at f in (
      v.onward c.in-Err.short.left c.round.new.plan (rw (halved_none c.loop-short.least v.least c.in_default-halved.ensures) (last (g.0, inr (c.in-Err.short.group.bits, g.3)))),
      f.1,
      omega (arith, ints, f.2, v.high),
      g.3,
    )

pub loop-short-preserved : goal.loop-short-preserved
loop-short-preserved c =
    let v = c.loop-short.invariant in
    let ls = c.args.lines.now in
    let rest = c.loop-short.rest in
    let s = c.in-Err.short in
    let f = c.in-Err.ensures in
    let g = short (goal.at.loop-short-preserved c).In-Err in
    let h = halved_some c.loop-short.least c.in-Some.half c.in-Some.ensures in
    let u = fillings_usable _ _ _ _ _ _ _ _ (passed_usable ls rest c.loop-short.plan v.checks) (positive c.loop-short.least v.least) f.0 in
    rw (keeps s.left rest.amount f.1 f.2 (passed_facts ls rest c.loop-short.plan v.checks).high, h.1) (record {
      least = half_some c.loop-short.least h.0;
      checks = rest_passes ls rest (record rest { amount = s.left }) c.loop-short.plan c.round.new.plan v.checks refl refl f.1 f.2 u;
      payer = v.payer;
      payee = v.payee;
      high = omega (arith, ints, f.2, v.high);
      onward = λ left to r. v.onward left to (next h.0 (g.0, inr (s.group.bits, g.3)) r);
    })
