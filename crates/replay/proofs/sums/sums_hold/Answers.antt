use Rattle.replay.proofs.Worked.{sums}
use Rattle.replay.proofs.sums.sums_hold.Goals as goal

pub returns : goal.returns
returns c = sums
