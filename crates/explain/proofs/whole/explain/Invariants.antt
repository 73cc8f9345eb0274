use Rattle.std.proofs.Common.{◌≡◌, take, string_bytes}
use Rattle.batch.specs.Reads.{steps_of}
use Rattle.explain.specs.Tells.{explained}
use Rattle.explain.proofs.whole.explain.Given as goal

abbrev pub invariant-loop-line : goal.invariant-loop-line
invariant-loop-line l = string_bytes l.text ≡ explained (steps_of l.batch) (take l.line-index l.sheet)
