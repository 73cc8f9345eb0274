use Rattle.std.proofs.Common.{◌≡◌, length, take}
use Rattle.ledger.specs.Debts.{debts}
use Rattle.ledger.proofs.stack.debts_of.Given as goal

abbrev pub invariant-loop-i : goal.invariant-loop-i
invariant-loop-i l = (length l.saved ≡ 256) × (take l.i l.saved ≡ debts (take l.i l.lines))
