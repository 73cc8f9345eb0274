use Rattle.std.proofs.Common.{◌-◌}
use Rattle.search.proofs.Distances.{Searching}
use Rattle.search.proofs.breadth_first.levels.Given as goal

abbrev pub invariant-loop-next : goal.invariant-loop-next
invariant-loop-next g l = Searching (g.G.Graph.steps l.graph) l.start l.goal l.level l.frontier.bits l.seen.bits l.before

abbrev pub decreases-loop-next : goal.decreases-loop-next
decreases-loop-next g l = 64 - l.level
