use Rattle.std.proofs.Common.{◌≡◌, set, sym, ◌∙◌, subst, arith}
use Rattle.search.specs.Levels.{Met}
use Rattle.search.proofs.Spreading.{meets}
use Rattle.search.proofs.breadth_first.spread.Goals as goal

pub returns-then-holds : goal.returns-then-holds
returns-then-holds g c =
    let S = g.G.Graph.steps c.args.graph.now in
    let whole : c.into_iter-m-iterator.result.rest.bits ≡ c.args.frontier.bits = cc in
    let met = meets S _ c.args.seen.bits c.args.goal c.args.before.now _ _ _ c.loop-m.invariant _ c.in-Some.m _ _ _
    c.in-Some.ensures.steps c.reached.ensures.sound c.union.ensures c.minus-fresh.ensures (sym c.holds.ensures ∙ c.if-holds.true) (omega arith) in
    subst (λ f. Met S f c.args.seen.bits c.args.goal c.args.before.now (set c.loop-m.before c.args.goal c.in-Some.m)) whole met
