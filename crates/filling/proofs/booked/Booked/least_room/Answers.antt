use Rattle.std.proofs.Common.{rules}
use Rattle.filling.proofs.Leasts.{least_more}
use Rattle.filling.proofs.booked.Booked.least_room.Goals as goal

pub loop-hop-preserved : goal.loop-hop-preserved
loop-hop-preserved c = search (rules, least_more _ _ _ _ _ c.loop-hop-test.true c.loop-hop.invariant)
