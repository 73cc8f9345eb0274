use Rattle.std.proofs.Common.{◌≡◌, pos, ◌≤ℤ◌, sym, ap, ◌∙◌, subst, arith, w32, w64, to_z, of_z}
use Rattle.std.proofs.lemmas.Int.{ints, to_z-of_z}
use Rattle.credit.specs.Plans.{moved, room_from}
use Rattle.routing.proofs.Shares.{room_from_low, planned_range, least}
use Rattle.routing.proofs.direct.share_on.Goals as goal

pub at_most-part-requires : goal.at_most-part-requires
at_most-part-requires c =
    let l = c.args.line.now in
    let e : c.room_from.result ≡ room_from (moved l c.args.planned) c.args.payment.payer =
    c.room_from.ensures ∙ ap (λ x. room_from (moved l x) c.args.payment.payer) (to_z-of_z w32 c.args.planned c.ranges.planned) in
    let h : pos 0 ≤ℤ c.room_from.result = subst (λ r. pos 0 ≤ℤ r) (sym e) (room_from_low (moved l c.args.planned) c.args.payment.payer c.requires.fit) in
    omega (arith, ints)

pub planned_after-requires : goal.planned_after-requires
planned_after-requires c =
    let l = c.args.line.now in
    let e : c.room_from.result ≡ room_from (moved l c.args.planned) c.args.payment.payer =
    c.room_from.ensures ∙ ap (λ x. room_from (moved l x) c.args.payment.payer) (to_z-of_z w32 c.args.planned c.ranges.planned) in
    let h : pos 0 ≤ℤ c.room_from.result = subst (λ r. pos 0 ≤ℤ r) (sym e) (room_from_low (moved l c.args.planned) c.args.payment.payer c.requires.fit) in
    let a : to_z w32 (of_z w32 c.args.payment.amount) ≡ c.args.payment.amount = omega (arith, ints) in
    let b : to_z w64 (of_z w64 c.room_from.result) ≡ c.room_from.result = omega (arith, ints) in
    let m = least (to_z w32 (of_z w32 c.args.payment.amount)) (to_z w64 (of_z w64 c.room_from.result)) (omega (arith, ints)) (omega (arith, ints)) in
    let p = planned_range l c.args.planned c.requires.sound c.requires.fit in
    let f = c.at_most-part.ensures in
    record { low = (omega (arith, ints), omega (arith, ints)); high = (omega (arith, ints), omega (arith, ints)) }
