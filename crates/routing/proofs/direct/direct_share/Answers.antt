use Rattle.std.proofs.Common.{◌<◌, ◌≤◌, length, get_or, pos, sym, ap, ◌∙◌, arith, w32, SFits, rules}
use Rattle.std.proofs.lemmas.Int.{ints, to_z-of_z}
use Rattle.credit.specs.Net.{bounded, no_line}
use Rattle.credit.specs.Plans.{moved, roomy}
use Rattle.credit.proofs.Sums.{every_at}
use Rattle.credit.proofs.Sends.{roomy_at}
use Rattle.routing.proofs.Passing.{passed_facts}
use Rattle.routing.proofs.Shares.{first_at}
use Rattle.routing.proofs.direct.direct_share.Goals as goal
use Rattle.routing.proofs.direct.direct_share.Goals.{In_ok-place}

-- the line of that place is among the lines, and there are few
at : (c : In_ok-place) → (c.in_ok-place.place < length c.args.lines.now) × (length c.args.lines.now ≤ 256) × (length c.args.lines.now ≤ length c.args.plan.now)
at c =
    let f = passed_facts c.args.lines.now c.args.payment c.args.plan.now c.requires in
    ((first_at c.args.payment.payer c.args.payment.payee c.args.lines.now c.in_ok-place.place (sym c.in_ok-place.ensures)).0, f.few, f.long)

pub offset_bounds-lines-place : goal.offset_bounds-lines-place
offset_bounds-lines-place c = let a = at c in search rules

pub bounds-lines-place : goal.bounds-lines-place
bounds-lines-place c = (at c).0

pub offset_bounds-plan-place : goal.offset_bounds-plan-place
offset_bounds-plan-place c = let a = at (goal.at.offset_bounds-plan-place c).In_ok-place in search rules

pub bounds-plan-place : goal.bounds-plan-place
bounds-plan-place c = let a = at (goal.at.bounds-plan-place c).In_ok-place in omega arith

pub share_on-requires : goal.share_on-requires
share_on-requires c =
    let ls = c.args.lines.now in
    let xs = c.args.plan.now in
    let i = c.in_ok-place.place in
    let f = passed_facts ls c.args.payment xs c.requires in
    let h = (first_at c.args.payment.payer c.args.payment.payee ls i (sym c.in_ok-place.ensures)).0 in
    let k : i < length xs = omega (arith, f.long) in
    let x : SFits w32 (get_or xs i (pos 0)) = search rules in
    record {
      sound = every_at bounded ls i no_line f.sound h;
      fit = ap (λ t. roomy (moved (get_or ls i no_line) t)) (to_z-of_z w32 (get_or xs i (pos 0)) x) ∙ roomy_at ls xs i h k f.fit;
      small = (omega (arith, ints, f.low), omega (arith, ints, f.high));
    }
