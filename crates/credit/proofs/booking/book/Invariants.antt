use Rattle.std.proofs.Common.{◌≡◌, take}
use Rattle.credit.specs.Plans.{booked}
use Rattle.credit.proofs.booking.book.Given as goal

abbrev pub invariant-loop-i : goal.invariant-loop-i
invariant-loop-i l = l.lines ≡ booked l.initial.lines (take l.i l.plan)
