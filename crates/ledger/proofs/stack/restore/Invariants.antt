use Rattle.std.proofs.Common.{◌≡◌, take}
use Rattle.ledger.proofs.Restores.{overlay}
use Rattle.ledger.proofs.stack.restore.Given as goal

abbrev pub invariant-loop-i : goal.invariant-loop-i
invariant-loop-i l = l.lines ≡ overlay l.initial.lines (take l.i l.saved)
