use Rattle.std.proofs.Common.{◌≡◌, length, ap, ◌∙◌, pos, ◌≤ℤ◌, sym, subst, arith, w32, w64, to_z, of_z}
use Rattle.std.proofs.lemmas.Int.{ints}
use Rattle.lists.specs.Lists.{listed}
use Rattle.credit.specs.Plans.{booked}
use Rattle.credit.proofs.Booked.{length_booked}
use Rattle.search.specs.Chains.{IsShortest}
use Rattle.routing.proofs.Passing.{passed_facts}
use Rattle.filling.specs.Steps.{RoomStep}
use Rattle.filling.specs.Fillings.{Filling}
use Rattle.filling.proofs.Leasts.{least_all}
use Rattle.filling.proofs.Along.{all_apart}
use Rattle.filling.proofs.Filled.{sent_bound}
use Rattle.filling.proofs.fill.fill.Goals as goal
use Rattle.filling.proofs.fill.fill.Goals.{After-least_room-x}

pub hops-hops-requires : goal.hops-hops-requires
hops-hops-requires c = rw c.new-booked.ensures c.requires.shortest.chain.linked

-- the filling, and how much is sent
filling : (c : After-least_room-x) → Filling c.args.lines.now c.args.rest.payer c.args.rest.payee (pos c.args.least) c.args.rest.amount c.args.plan.now (listed c.args.chain.now.members) c.hops-hops.result.items c.least_room-x.result
filling c =
    let ls = booked c.args.lines.now c.args.plan.now in
    let p = passed_facts c.args.lines.now c.args.rest c.args.plan.now c.requires.checks in
    let n : to_z w32 (of_z w32 c.args.rest.amount) ≡ c.args.rest.amount = omega (arith, ints, p.low, p.high) in
    record {
      some = p.low;
      shortest = subst (λ k. IsShortest (RoomStep ls (pos c.args.least)) c.args.rest.payer c.args.rest.payee (listed c.args.chain.now.members) k) (sym c.hops-hops.ensures.count) c.requires.shortest;
      over = rw c.new-booked.ensures at c.hops-hops.ensures.over;
      amount = least_all ls c.hops-hops.result.items c.args.rest.amount c.least_room-x.result (rw (c.deref.ensures.0, n, c.new-booked.ensures) at c.least_room-x.ensures);
    }

low : (c : After-least_room-x) → pos 0 ≤ℤ c.least_room-x.result
low c =
    let f = filling c in
    let a : pos 0 ≤ℤ c.args.rest.amount = omega (arith, ints, f.some) in
    let b : pos 0 ≤ℤ pos c.args.least = omega (arith, ints) in
    sent_bound _ _ _ _ _ _ (pos 0) f.over f.amount a b

high : (c : After-least_room-x) → c.least_room-x.result ≤ℤ pos 1000000
high c = let p = passed_facts c.args.lines.now c.args.rest c.args.plan.now c.requires.checks in omega (arith, ints, (filling c).amount.most, p.high)

cast : (c : After-least_room-x) → to_z w32 (of_z w32 (to_z w64 (of_z w64 c.least_room-x.result))) ≡ c.least_room-x.result
cast c = omega (arith, ints, low c, high c)

pub overflow_cast-x : goal.overflow_cast-x
overflow_cast-x c = omega (arith, ints, low c, high c)

pub send-requires-clause-within : goal.send-requires-clause-within
send-requires-clause-within c =
    let n : length c.new-booked.result ≡ length c.args.lines.now = ap (λ l. length l) c.new-booked.ensures ∙ length_booked c.args.lines.now c.args.plan.now in
    rw c.deref-2.ensures.0 (rw n at c.hops-hops.ensures.within)

pub send-requires-clause-apart : goal.send-requires-clause-apart
send-requires-clause-apart c =
    let f = filling (goal.at.send-requires-clause-apart c).After-least_room-x in
    let p = passed_facts c.args.lines.now c.args.rest c.args.plan.now c.requires.checks in
    rw c.deref-2.ensures.0 (all_apart c.args.lines.now c.args.plan.now p.long (pos c.args.least) (listed c.args.chain.now.members) c.hops-hops.result.items f.shortest.apart f.over)

pub send-requires-clause-low : goal.send-requires-clause-low
send-requires-clause-low c = let b = (goal.at.send-requires-clause-low c).After-least_room-x in rw (cast b) (low b)

pub send-requires-clause-high : goal.send-requires-clause-high
send-requires-clause-high c = let b = (goal.at.send-requires-clause-high c).After-least_room-x in rw (cast b) (high b)

pub returns : goal.returns
returns c =
    let b = (goal.at.returns c).After-least_room-x in
    rw (cast b) (listed c.args.chain.now.members, c.hops-hops.result.items, filling b, rw (c.deref-2.ensures.0, cast b) at c.send.ensures)
