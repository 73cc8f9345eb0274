-- A walk over the members of a group, from the lowest up.
use Rattle.std.specs.Prelude.{◌≡◌, ℕ, ◌<◌, true, false, not, ◌&&◌, [], ◌∷◌, Some, None, Option, ◌==◌}
use Rattle.members.specs.Groups.{inside, members_of}

-- m is the lowest member of g
pub record IsLowest (g m : ℕ) : Type 0 where
  pub small : m < 64
  pub holds : inside g m ≡ true
  pub none_below : (n : ℕ) → n < m → inside g n ≡ false

abbrev pub Lowest : ℕ → Option ℕ → Type 0
Lowest g None = g ≡ 0
Lowest g (Some m) = IsLowest g m

-- m is taken out of g, and h is left
pub record Took (g m h : ℕ) : Type 0 where
  pub small : m < 64
  pub holds : inside g m ≡ true
  pub rest : (n : ℕ) → inside h n ≡ (inside g n && not (n == m))
  pub listed : members_of g ≡ m ∷ members_of h

-- a step of a walk with the members g before it: its end, or a member and those left
abbrev pub Walked : ℕ → Option ℕ → ℕ → Type 0
Walked g None h = (g ≡ 0) × (h ≡ 0) × (members_of g ≡ [])
Walked g (Some m) h = Took g m h
