use Rattle.std.proofs.Common.{arith}
use Rattle.std.proofs.lemmas.Int.{ints}
use Rattle.routing.proofs.direct.widened.Goals as goal

pub with_part-requires : goal.with_part-requires
with_part-requires c = let h = c.requires.high c.in-WantOfRoom.group c.in-WantOfRoom.room c.in-WantOfRoom.is in (omega (arith, ints), omega (arith, ints))
