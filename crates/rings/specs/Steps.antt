-- Debts as the steps of a graph, and debts that neither grow nor turn.
use Rattle.std.specs.Prelude.{◌≡◌, ℕ, ◌<◌, ◌⊎◌, List, length, get_or, ℤ, pos, ◌≤ℤ◌, ◌<ℤ◌, slice_index_or}
use Rattle.credit.specs.declared.line.Line.{Line}
use Rattle.credit.specs.Net.{no_line}
use Rattle.credit.specs.Plans.{with_debt}
use Rattle.rings.specs.Rings.{line_owes}

-- some line on which m owes n: a step from debtor to creditor
abbrev pub DebtStep : List Line → ℕ → ℕ → Type 0
DebtStep ls m n = (i : ℕ) × (i < length ls) × (pos 0 <ℤ line_owes m n (slice_index_or ls i no_line))

-- from d to e a debt neither grows nor turns
abbrev pub Shrinks : ℤ → ℤ → Type 0
Shrinks d e = ((pos 0 ≤ℤ e) × (e ≤ℤ d)) ⊎ ((d ≤ℤ e) × (e ≤ℤ pos 0))

-- every line keeps its ends and trusts, and no debt grows or turns
pub record Eases (ls ls' : List Line) : Type 0 where
  pub long : length ls' ≡ length ls
  pub same : (i : ℕ) → i < length ls → slice_index_or ls' i no_line ≡ with_debt (slice_index_or ls i no_line) (get_or ls' i no_line).debt
  pub less : (i : ℕ) → i < length ls → Shrinks (get_or ls i no_line).debt (get_or ls' i no_line).debt
