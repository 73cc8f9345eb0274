use Rattle.std.proofs.Common.{◌≡◌, ℕ, length}
use Rattle.search.proofs.Spreading.{noted}
use Rattle.search.proofs.breadth_first.note.Given as goal

-- what is still to note leads to the same
abbrev pub invariant-loop-n : goal.invariant-loop-n
invariant-loop-n l =
    record {
      long : length l.before ≡ 64;
      same : (n : ℕ) → noted l.n-iterator.rest.bits l.m l.before n ≡ noted l.initial.n-iterator.rest.bits l.m l.initial.before n;
    }
