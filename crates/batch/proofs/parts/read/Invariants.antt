use Rattle.std.proofs.Common.{length}
use Rattle.batch.proofs.Rows.{Sofar}
use Rattle.batch.proofs.parts.read.Given as goal

abbrev pub invariant-loop-place : goal.invariant-loop-place
invariant-loop-place l = Sofar l.body (length l.initial.places) l.place-index l.places l.rest
