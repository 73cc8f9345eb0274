use Rattle.std.proofs.Common.{reverse}
use Rattle.lists.specs.Lists.{listed}
use Rattle.search.proofs.Tracing.{Tracing}
use Rattle.search.proofs.breadth_first.trace.Given as goal

abbrev pub invariant-loop : goal.invariant-loop
invariant-loop l = Tracing l.before l.goal l.counter l.at (reverse (listed l.members))
