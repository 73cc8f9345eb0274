use Rattle.std.proofs.Common.{◌≡◌, true, get_or, nat_abs}
use Rattle.credit.specs.Sums.{every}
use Rattle.credit.specs.Net.{no_line, bounded}
use Rattle.credit.specs.Pairs.{distinct}
use Rattle.rings.specs.Rounds.{Reached}
use Rattle.rings.proofs.tidy.clear.Given as goal

abbrev pub invariant-loop-chain : goal.invariant-loop-chain
invariant-loop-chain l =
    record {
      reached : Reached l.initial.lines l.lines;
      bounds : every bounded l.lines ≡ true;
      pairs : distinct l.lines ≡ true;
    }

abbrev pub decreases-loop-chain : goal.decreases-loop-chain
decreases-loop-chain l = nat_abs (get_or l.lines l.i no_line).debt
