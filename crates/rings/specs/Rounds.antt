-- Chains of debts that close to a ring, and lines that no ring leads over.
use Rattle.std.specs.Prelude.{◌≡◌, ℕ, ◌+◌, ◌-◌, ◌<◌, ◌≤◌, true, ◌⊎◌, List, length, Some, None, Option, ℤ, pos, neg_ℤ, ◌≤ℤ◌, ◌<ℤ◌, ◌==◌, ◌≢◌, slice_index, slice_index_or}
use Rattle.std.specs.Option.{option_eq}
use Rattle.credit.specs.declared.line.Line.{Line}
use Rattle.credit.specs.Net.{no_line}
use Rattle.rings.specs.Rings.{line_owes, steps, on, Cancels}
use Rattle.rings.specs.Steps.{DebtStep}

-- members, none of them twice
pub record Apart (c : List ℕ) : Type 0 where
  pub members : (i : ℕ) → i < length c → slice_index c i < 64
  pub apart : (i j : ℕ) → i < length c → j < length c → slice_index c i ≡ slice_index c j → i ≡ j

-- each of three members or more owes the next, and the last owes the first
pub record Rounds (ls : List Line) (c : List ℕ) : Type 0 where
  pub three : 3 ≤ length c
  pub different : Apart c
  pub linked : (i : ℕ) → i + 1 < length c → DebtStep ls (slice_index c i) (slice_index c (i + 1))
  pub closing : DebtStep ls (slice_index c (length c - 1)) (slice_index c 0)

-- such members, the last of whom owes the first on line i
abbrev pub RoundOver : List Line → ℕ → List ℕ → Type 0
RoundOver ls i c = Rounds ls c × (pos 0 <ℤ line_owes (slice_index c (length c - 1)) (slice_index c 0) (slice_index_or ls i no_line))

-- a table of whom each member owes on the ring; who is not on it owes nobody
abbrev pub Links : List (Option ℕ) → List ℕ → Type 0
Links next ms = (x y : ℕ) → x < 64 → y < 64 → option_eq (λ m n. m == n) (slice_index_or next x None) (Some y) ≡ on x y (steps ms)

-- v is at most what is owed on the line along the steps of a ring
abbrev pub Under : List ℕ → ℤ → Line → Type 0
Under ms v l = (on l.b l.a (steps ms) ≡ true → v ≤ℤ l.debt) × (on l.a l.b (steps ms) ≡ true → v ≤ℤ neg_ℤ l.debt)

-- v is what is owed on the line along a step of a ring
abbrev pub Met : List ℕ → ℤ → Line → Type 0
Met ms v l = ((on l.b l.a (steps ms) ≡ true) × (v ≡ l.debt)) ⊎ ((on l.a l.b (steps ms) ≡ true) × (v ≡ neg_ℤ l.debt))

-- each step round the members is a debt
abbrev pub Ringed : List Line → List ℕ → Type 0
Ringed ls ms = (x y : ℕ) → on x y (steps ms) ≡ true → DebtStep ls x y

-- no ring of debts leads over line i
abbrev pub Clear : List Line → ℕ → Type 0
Clear ls i = (x y : ℕ) → pos 0 <ℤ line_owes x y (slice_index_or ls i no_line) → (ms : List ℕ) → Ringed ls ms → on x y (steps ms) ≢ true

-- ls' is ls with some rings cancelled, one after another
abbrev pub Reached : List Line → List Line → Type 0
Reached ls ls' = (rs : List (List ℕ × ℤ)) × Cancels rs ls ls'
