use Rattle.search.proofs.Emptied.{no_step}
use Rattle.search.proofs.rows.no_steps.Goals as goal

pub returns : goal.returns
returns c = λ m n. no_step c.empty.result c.empty.ensures 64 m n
