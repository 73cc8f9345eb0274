use Rattle.std.proofs.Common.{arith}
use Rattle.search.proofs.Distances.{starts, grows, closes, arrives}
use Rattle.search.proofs.breadth_first.levels.Goals as goal

pub loop-next-init : goal.loop-next-init
loop-next-init g c =
    starts (g.G.Graph.steps c.args.graph.now) c.args.start c.args.goal c.empty.result.bits c.with-seen.result.bits c.args.before.now c.requires.from
    c.if-start-goal.false c.empty.ensures c.with-seen.ensures c.requires.members

pub loop-next-preserved : goal.loop-next-preserved
loop-next-preserved g c =
    grows (g.G.Graph.steps c.args.graph.now) c.args.start c.args.goal _ _ _ _ c.loop-next.invariant _ _ _ c.in-Some.ensures
    (omega arith) c.if-next-eq0.false c.union-seen.ensures c.requires.to

pub returns-then-next-eq0-clause-leads : goal.returns-then-next-eq0-clause-leads
returns-then-next-eq0-clause-leads g c =
    closes (g.G.Graph.steps c.args.graph.now) c.args.start c.args.goal _ _ _ _ c.loop-next.invariant _ _ c.in-Some.ensures c.if-next-eq0.true

pub returns-clause-leads : goal.returns-clause-leads
returns-clause-leads g c chain traced =
    arrives (g.G.Graph.steps c.args.graph.now) c.args.start c.args.goal _ _ _ _ c.loop-next.invariant _ c.in_default.ensures c.requires.to chain traced
