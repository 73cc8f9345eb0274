-- Chains of members, and groups that no step leaves. `S m n` says that one step leads from m to n.
use Rattle.std.specs.Prelude.{◌≡◌, ℕ, ◌+◌, ◌<◌, ◌≤◌, List, length, slice_index, slice_index_or}
use Rattle.members.specs.Groups.{Has}

-- The first k + 1 entries of c are members, from `from` to `to`, each one step from the one before it.
pub record IsChain (S : ℕ → ℕ → Type 0) (from to : ℕ) (c : List ℕ) (k : ℕ) : Type 0 where
  pub long : k < length c
  pub first : slice_index_or c 0 0 ≡ from
  pub last : slice_index_or c k 0 ≡ to
  pub members : (i : ℕ) → i ≤ k → slice_index c i < 64
  pub linked : (i : ℕ) → i < k → S (slice_index c i) (slice_index c (i + 1))

-- No member occurs twice, and no chain between the two has fewer steps.
pub record IsShortest (S : ℕ → ℕ → Type 0) (from to : ℕ) (c : List ℕ) (k : ℕ) : Type 0 where
  pub chain : IsChain S from to c k
  pub apart : (i j : ℕ) → i ≤ k → j ≤ k → slice_index c i ≡ slice_index c j → i ≡ j
  pub least : (other : List ℕ) (j : ℕ) → IsChain S from to other j → k ≤ j

-- The group g holds `from`, lacks `to`, and no step leads out of it.
pub record Separates (S : ℕ → ℕ → Type 0) (from to g : ℕ) : Type 0 where
  pub inside : Has g from
  pub outside : Has g to → ⊥
  pub closed : (m n : ℕ) → m < 64 → n < 64 → Has g m → S m n → Has g n
