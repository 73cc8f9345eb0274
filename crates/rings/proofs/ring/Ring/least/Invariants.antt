use Rattle.rings.specs.Parties.{party}
use Rattle.rings.proofs.Lowering.{Least}
use Rattle.rings.proofs.ring.Ring.least.Given as goal

abbrev pub invariant-loop-line : goal.invariant-loop-line
invariant-loop-line l = Least (party l.self) l.lines l.line-index l.least
