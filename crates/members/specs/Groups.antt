-- A group of members is a 64-bit number: member m belongs to it where its binary digit m is 1.
use Rattle.std.specs.Prelude.{◌≡◌, ℕ, zero, suc, ◌/◌, ◌%◌, ◌^◌, Bool, true, cond, List, [], ◌∷◌, ◌==◌}

-- whether the group of these bits holds a member
unfoldable pub inside : ℕ → ℕ → Bool
inside g m = g / 2 ^ m % 2 == 1

-- the same as a statement
abbrev pub Has : ℕ → ℕ → Type 0
Has g m = inside g m ≡ true

-- which of the k numbers from m on are members, rising
unfoldable pub members_from : ℕ → ℕ → ℕ → List ℕ
members_from zero m g = []
members_from (suc k) m g = cond (inside g m) (m ∷ members_from k (suc m) g) (members_from k (suc m) g)

-- the members of a group, rising
unfoldable pub members_of : ℕ → List ℕ
members_of g = members_from 64 0 g
