use Rattle.std.proofs.Common.{ℕ, ◌<◌}
use Rattle.rings.specs.Rounds.{Reached, Clear}
use Rattle.rings.proofs.Rings.{Keeps}
use Rattle.rings.proofs.tidy.tidy.Given as goal

abbrev pub invariant-loop-i : goal.invariant-loop-i
invariant-loop-i l =
    record {
      reached : Reached l.initial.lines l.lines;
      keeps : Keeps l.initial.lines l.lines;
      cleared : (j : ℕ) → j < l.i → Clear l.lines j;
    }
