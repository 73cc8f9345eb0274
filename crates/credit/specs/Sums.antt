-- Sums over lists and over members.
use Rattle.std.specs.Prelude.{ℕ, zero, suc, Bool, true, cond, ◌&&◌, List, [], ◌∷◌, ℤ, pos, ◌+ℤ◌}

-- the sum of what each element brings
abbrev pub sum_z : {X : Type 0} → (X → ℤ) → List X → ℤ
sum_z f [] = pos 0
sum_z f (x ∷ xs) = f x +ℤ sum_z f xs

-- the sum over the members below n
unfoldable pub members : ℕ → (ℕ → ℤ) → ℤ
members zero f = pos 0
members (suc n) f = members n f +ℤ f n

-- v where the test holds, else 0
abbrev pub only : Bool → ℤ → ℤ
only t v = cond t v (pos 0)

-- every element passes the test
abbrev pub every : {X : Type 0} → (X → Bool) → List X → Bool
every p [] = true
every p (x ∷ xs) = p x && every p xs
