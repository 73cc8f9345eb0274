use Rattle.std.proofs.Common.{◌≡◌, ◌^◌, ◌<◌, drop}
use Rattle.batch.specs.Numbers.{read_on}
use Rattle.batch.proofs.scan.digits.Given as goal

abbrev pub invariant-loop-b : goal.invariant-loop-b
invariant-loop-b l = record { below : l.n < 10 ^ l.b-index; same : read_on l.n (drop l.b-index l.part) ≡ read_on 0 l.part }
