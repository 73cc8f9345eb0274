use Rattle.rings.specs.Parties.{party}
use Rattle.rings.proofs.Lowering.{Lowering}
use Rattle.rings.proofs.ring.Ring.lower.Given as goal

abbrev pub invariant-loop-line : goal.invariant-loop-line
invariant-loop-line l = Lowering (party l.self) l.by l.initial.lines l.lines l.line-index
