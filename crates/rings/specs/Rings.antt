-- Rings of debt, and lines from which all rings are cancelled.
use Rattle.std.specs.Prelude.{◌≡◌, ℕ, ◌≤◌, Bool, true, false, not, ◌&&◌, ◌||◌, List, [], ◌∷◌, length, ℤ, pos, ◌+ℤ◌, ◌-ℤ◌, ◌≤ℤ◌, ◌<ℤ◌, ◌==◌}
use Rattle.credit.specs.declared.line.Line.{Line}
use Rattle.credit.specs.Sums.{sum_z, only}
use Rattle.credit.specs.Plans.{with_debt}

-- what x owes y on a line, and over all lines
abbrev pub line_owes : ℕ → ℕ → Line → ℤ
line_owes x y l = only (x == l.b && y == l.a) l.debt -ℤ only (x == l.a && y == l.b) l.debt

abbrev pub owes : ℕ → ℕ → List Line → ℤ
owes x y ls = sum_z (line_owes x y) ls

-- the steps from a member through others to a goal: debtor and creditor
abbrev pub walk : ℕ → List ℕ → ℕ → List (ℕ × ℕ)
walk here [] goal = (here, goal) ∷ []
walk here (m ∷ ms) goal = (here, m) ∷ walk m ms goal

-- the steps round a ring: each member to the next, the last to the first
abbrev pub steps : List ℕ → List (ℕ × ℕ)
steps [] = []
steps (m ∷ ms) = walk m ms m

abbrev pub has : ℕ → List ℕ → Bool
has m [] = false
has m (k ∷ ks) = m == k || has m ks

-- no member twice
abbrev pub once : List ℕ → Bool
once [] = true
once (m ∷ ms) = not (has m ms) && once ms

-- whether a step is from x to y
abbrev pub on : ℕ → ℕ → List (ℕ × ℕ) → Bool
on x y [] = false
on x y (s ∷ ss) = (s.0 == x && s.1 == y) || on x y ss

-- members who owe each other round a ring of three or more, the least of the debts being c
pub record Ring (ls : List Line) (ms : List ℕ) (c : ℤ) : Type 0 where
  pub three : 3 ≤ length ms
  pub apart : once ms ≡ true
  pub owing : (x y : ℕ) → on x y (steps ms) ≡ true → c ≤ℤ owes x y ls
  pub least : (x : ℕ) × (y : ℕ) × (on x y (steps ms) ≡ true) × (owes x y ls ≡ c)
  pub some : pos 0 <ℤ c

-- what x owes y falls by c
abbrev pub lower_line : ℕ → ℕ → ℤ → Line → Line
lower_line x y c l = with_debt l ((l.debt -ℤ only (x == l.b && y == l.a) c) +ℤ only (x == l.a && y == l.b) c)

abbrev pub lower : ℕ → ℕ → ℤ → List Line → List Line
lower x y c [] = []
lower x y c (l ∷ ls) = lower_line x y c l ∷ lower x y c ls

-- each debt on the ring falls by c
abbrev pub cancel : List (ℕ × ℕ) → ℤ → List Line → List Line
cancel [] c ls = ls
cancel (s ∷ ss) c ls = cancel ss c (lower s.0 s.1 c ls)

-- one ring after another is cancelled
abbrev pub Cancels : List (List ℕ × ℤ) → List Line → List Line → Type 0
Cancels [] ls ls' = ls' ≡ ls
Cancels (r ∷ rs) ls ls' = Ring ls r.0 r.1 × Cancels rs (cancel (steps r.0) r.1 ls) ls'

-- the lines once rings are cancelled until none is left
pub record Tidied (ls ls' : List Line) : Type 0 where
  pub rings : List (List ℕ × ℤ)
  pub cancels : Cancels rings ls ls'
  pub clear : (ms : List ℕ) (c : ℤ) → Ring ls' ms c → ⊥
