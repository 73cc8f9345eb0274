use Rattle.std.proofs.Common.{◌≡◌, ◌++◌, vec_items}
use Rattle.batch.specs.Reads.{left, steps_of}
use Rattle.compare.specs.Scripts.{calls_in, stop_in}
use Rattle.compare.proofs.script.read.Given as goal

abbrev pub invariant-loop-line : goal.invariant-loop-line
invariant-loop-line l =
    (vec_items l.calls ++ calls_in (left l.line-iterator) ≡ calls_in (steps_of l.batch))
    × (stop_in (left l.line-iterator) ≡ stop_in (steps_of l.batch))
