use Rattle.std.proofs.Common.{refl}
use Rattle.replay.proofs.Recording.{closed_twice}
use Rattle.replay.proofs.replay.side_by_side.Goals as goal

pub returns : goal.returns
returns c = record { runs = closed_twice _ _ _ c.requires.first c.requires.second; first = refl; second = refl }
