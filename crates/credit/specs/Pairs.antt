-- Which pairs of members have a line.
use Rattle.std.specs.Prelude.{ℕ, Bool, true, false, not, ◌&&◌, ◌||◌, List, [], ◌∷◌, ◌==◌}
use Rattle.credit.specs.declared.line.Line.{Line}

-- whether a line joins two members, in either order
abbrev pub joins : ℕ → ℕ → Line → Bool
joins x y l = (x == l.a && y == l.b) || (x == l.b && y == l.a)

-- the pair has a line
abbrev pub joined : ℕ → ℕ → List Line → Bool
joined x y [] = false
joined x y (l ∷ ls) = joins x y l || joined x y ls

-- at most one line for each pair
abbrev pub distinct : List Line → Bool
distinct [] = true
distinct (l ∷ ls) = not (joined l.a l.b ls) && distinct ls
