use Rattle.std.proofs.Common.{◌≡◌, ◌+◌, ◌-◌, ◌≤◌, length, get_or, drop, pos, sym, ap, ◌∙◌, arith}
use Rattle.std.proofs.lemmas.Iterator.{window_more}
use Rattle.std.specs.Slice.Iter.{windows_rest}
use Rattle.lists.specs.Lists.{listed}
use Rattle.filling.specs.Steps.{LeadsAt}
use Rattle.filling.proofs.Firsts.{over_push}
use Rattle.filling.proofs.booked.Booked.hops.Goals as goal
use Rattle.filling.proofs.booked.Booked.hops.Goals.{In-Some}

-- this turn's pair is the two members of the chain behind as many as there are hops
turn : (c : In-Some) → (length (windows_rest c.next.new.self) + 1 ≡ length (windows_rest c.loop-pair.pair-iterator))
    × (windows_rest c.next.new.self ≡ drop (length (listed c.args.chain.now.members) - length (windows_rest c.next.new.self)) (listed c.args.chain.now.members))
    × (2 ≤ length (windows_rest c.loop-pair.pair-iterator))
    × (get_or c.in-Some.pair.now 0 0 ≡ get_or (listed c.args.chain.now.members) (length c.loop-pair.hops.items) 0)
    × (get_or c.in-Some.pair.now 1 0 ≡ get_or (listed c.args.chain.now.members) (length c.loop-pair.hops.items + 1) 0)
turn c =
    let v = c.loop-pair.invariant in
    let ms = listed c.args.chain.now.members in
    let n = length (windows_rest c.loop-pair.pair-iterator) in
    let i = length c.loop-pair.hops.items in
    let t = window_more ms c.loop-pair.pair-iterator c.next.new.self c.next.result c.in-Some.pair c.in-Some.is c.next.ensures.steps
    (omega (arith, v.size)) (omega (arith, v.count)) v.rest in
    let e : length ms - n + 0 ≡ i = omega (arith, v.count) in
    let f : length ms - n + 1 ≡ i + 1 = omega (arith, v.count) in
    (t.0, t.1, omega (arith, t.2, v.size), t.3 0 0 (omega (arith, v.size)) ∙ ap (λ j. get_or ms j 0) e, t.3 1 0 (omega (arith, v.size)) ∙ ap (λ j. get_or ms j 0) f)

pub place-requires : goal.place-requires
place-requires c =
    let t = turn (goal.at.place-requires c).In-Some in
    let i = length c.loop-pair.hops.items in
    rw (t.3, t.4) (c.requires i (omega (arith, t.2, c.loop-pair.invariant.count)))

pub loop-pair-preserved : goal.loop-pair-preserved
loop-pair-preserved c =
    let t = turn (goal.at.loop-pair-preserved c).In-Some in
    let v = c.loop-pair.invariant in
    let n = c.push.ensures.len in
    let ls = c.args.self.now in
    let ms = listed c.args.chain.now.members in
    let i = length c.loop-pair.hops.items in
    let o : LeadsAt ls (pos c.args.least) (get_or ms i 0) (get_or ms (i + 1) 0) c.place.result = rw (sym t.3, sym t.4) c.place.ensures in
    record {
      size = omega (arith, v.size, c.next.ensures.steps);
      rest = t.1;
      fits = v.fits;
      count = omega (arith, t.0, n, v.count);
      short = omega (arith, t.2, n, v.count);
      over = λ k h. rw c.push.ensures.items (over_push ls (pos c.args.least) ms c.loop-pair.hops.items _ v.over (t.3, o) k (omega (arith, h, n)));
    }
