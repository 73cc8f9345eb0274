-- One level of a breadth-first search. `old` and `new` hold for each member the one it was reached from.
use Rattle.std.specs.Prelude.{◌≡◌, ℕ, ◌+◌, ◌<◌, ◌≤◌, ◌⊎◌, List, length, Some, None, Option, slice_index, slice_index_or}
use Rattle.members.specs.declared.group.Group.{Group}
use Rattle.members.specs.Groups.{Has}

-- every entry is a member
abbrev pub Members : List ℕ → Type 0
Members before = (n : ℕ) → n < 64 → slice_index before n < 64

-- The whole level was gone through: `next` are the members outside `seen` one step from `frontier`.
pub record Grown (S : ℕ → ℕ → Type 0) (frontier seen goal : ℕ) (old new : List ℕ) (next : ℕ) : Type 0 where
  pub unseen : (n : ℕ) → Has next n → Has seen n → ⊥
  pub from : (n : ℕ) → Has next n → Has frontier (slice_index new n) × S (slice_index new n) n
  pub same : (n : ℕ) → (Has next n → ⊥) → slice_index new n ≡ slice_index old n
  pub all : (m n : ℕ) → n < 64 → Has frontier m → S m n → Has seen n ⊎ Has next n
  pub lacks : Has next goal → ⊥
  pub small : Members new

-- The goal was reached from the frontier.
pub record Met (S : ℕ → ℕ → Type 0) (frontier seen goal : ℕ) (old new : List ℕ) : Type 0 where
  pub from : Has frontier (slice_index new goal) × S (slice_index new goal) goal
  pub same : (n : ℕ) → Has seen n → slice_index new n ≡ slice_index old n
  pub small : Members new

-- the next level, or None where the goal was reached
abbrev pub Spread : (S : ℕ → ℕ → Type 0) (frontier seen goal : ℕ) (old new : List ℕ) → Option Group → Type 0
Spread S frontier seen goal old new (Some next) = Grown S frontier seen goal old new next.bits
Spread S frontier seen goal old new None = Met S frontier seen goal old new

-- c leads in k steps to the goal, each member being the one that the next was reached from.
pub record Traced (before : List ℕ) (goal k : ℕ) (c : List ℕ) : Type 0 where
  pub long : length c ≡ k + 1
  pub last : slice_index_or c k 0 ≡ goal
  pub members : (i : ℕ) → i ≤ k → slice_index c i < 64
  pub back : (i : ℕ) → i < k → slice_index c i ≡ slice_index before (slice_index c (i + 1))
