-- The lines at which the open groups begin, the inmost first.
use Rattle.std.specs.Prelude.{ℕ, List, reverse}
use Rattle.arrayvec.specs.ArrayVec.{ArrayVec}

abbrev pub marks_of : ArrayVec ℕ → List ℕ
marks_of m = reverse m.items
