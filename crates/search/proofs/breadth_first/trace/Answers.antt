use Rattle.lists.specs.Lists.{listed}
use Rattle.search.proofs.Tracing.{pushed}
use Rattle.search.proofs.breadth_first.trace.Goals as goal

pub loop-preserved : goal.loop-preserved
loop-preserved c = rw c.push-in-loop.ensures (pushed _ _ _ c.loop.at (listed c.loop.members) c.requires.members c.loop.invariant)
