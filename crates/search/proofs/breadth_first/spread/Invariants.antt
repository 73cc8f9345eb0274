use Rattle.search.proofs.Spreading.{Spreading}
use Rattle.search.proofs.breadth_first.spread.Given as goal

abbrev pub invariant-loop-m : goal.invariant-loop-m
invariant-loop-m g l =
    Spreading (g.G.Graph.steps l.graph) l.initial.m-iterator.rest.bits l.seen.bits l.goal l.initial.before l.m-iterator.rest.bits l.next.bits l.before
