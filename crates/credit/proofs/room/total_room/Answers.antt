use Rattle.std.proofs.Common.{◌≡◌, get_or, pos, ◌+ℤ◌, ◌∙◌, rules, tests, arith}
use Rattle.std.proofs.lemmas.Int.{ints}
use Rattle.std.proofs.lemmas.Iterator.{YieldsList-from_slice, YieldsList-from_map}
use Rattle.std.proofs.lemmas.Iterator.Consumers.{YieldsList-from_enumerate}
use Rattle.std.proofs.lemmas.Iterator.Adapters.{total_from_yields_List}
use Rattle.credit.specs.Rooms.{room_out, room}
use Rattle.credit.specs.Plans.{booked, moved}
use Rattle.credit.proofs.Chains.{fits_from_fronts, room_fits, room_total, room_bounds}
use Rattle.credit.proofs.room.total_room.Goals as goal

pub sum-requires-clause-fits : goal.sum-requires-clause-fits
sum-requires-clause-fits c =
    fits_from_fronts _ (YieldsList-from_map _ (λ p. room_out c.args.group.bits (moved p.1 (get_or c.args.plan.now p.0 (pos 0)))) (YieldsList-from_enumerate (YieldsList-from_slice c.args.lines.now cc) cc) c.map.ensures.closure (λ x r q k. search (rules, tests)))
    (room_fits c.args.group.bits c.args.lines.now c.args.plan.now c.requires.bounds c.requires.fit c.requires.few)

total : (c : goal.After-sum) → c.sum.result ≡ room c.args.group.bits (booked c.args.lines.now c.args.plan.now)
total c =
    total_from_yields_List ◌+ℤ◌ (pos 0) c.sum.result c.sum.ensures.ran (YieldsList-from_map _ (λ p. room_out c.args.group.bits (moved p.1 (get_or c.args.plan.now p.0 (pos 0)))) (YieldsList-from_enumerate (YieldsList-from_slice c.args.lines.now cc) cc) c.map.ensures.closure (λ x r q k. search (rules, tests)))
    ∙ room_total c.args.group.bits c.args.lines.now c.args.plan.now c.requires.bounds c.requires.fit c.requires.few

pub returns : goal.returns
returns c =
    let r = room_bounds c.args.group.bits c.args.lines.now c.args.plan.now c.requires.bounds c.requires.fit c.requires.few in
    record {
      value = omega (arith, ints, total c);
      bound = (omega (arith, ints, total c), omega (arith, ints, total c));
    }
