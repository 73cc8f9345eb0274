use Rattle.search.proofs.Tracing.{none_yet}
use Rattle.search.proofs.breadth_first.search.Goals as goal

pub levels-requires-clause-members : goal.levels-requires-clause-members
levels-requires-clause-members g c n _ = none_yet 64 n
