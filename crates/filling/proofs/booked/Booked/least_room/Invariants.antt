use Rattle.std.proofs.Common.{◌≡◌, take}
use Rattle.filling.specs.Fillings.{least_over}
use Rattle.filling.proofs.booked.Booked.least_room.Given as goal

abbrev pub invariant-loop-hop : goal.invariant-loop-hop
invariant-loop-hop l = l.least ≡ least_over l.self (take l.hop-index l.hops) l.left
