-- Sums over lists and over members, and tests of every element.
use Rattle.std.proofs.Common.{◌≡◌, ℕ, zero, suc, ◌<◌, ◌≤◌, Bool, true, false, eqb, ◌⊎◌, List, [], ◌∷◌, ◌++◌, length, get_or, set, ℤ, pos, ◌+ℤ◌, ◌-ℤ◌, refl, ap, inl, inr, arith}
use Rattle.std.proofs.lemmas.Int.{ints}
use Rattle.std.proofs.lemmas.Bool.{eq-eqb, ne_eqb, cases_eq, and_parts, and_from}
use Rattle.credit.specs.Sums.{sum_z, members, only, every}

pub sum_append : {X : Type 0} (f : X → ℤ) (xs ys : List X) → sum_z f (xs ++ ys) ≡ sum_z f xs +ℤ sum_z f ys
sum_append f [] ys = omega (arith, ints)
sum_append f (x ∷ xs) ys = omega (arith, ints, sum_append f xs ys)

pub only_add : (t : Bool) (a b : ℤ) → only t (a +ℤ b) ≡ only t a +ℤ only t b
only_add true a b = refl
only_add false a b = refl

pub only_sub : (t : Bool) (a b : ℤ) → only t (a -ℤ b) ≡ only t a -ℤ only t b
only_sub true a b = refl
only_sub false a b = refl

pub only_swap : (s t : Bool) (a : ℤ) → only s (only t a) ≡ only t (only s a)
only_swap true t a = refl
only_swap false true a = refl
only_swap false false a = refl

pub sum_only : {X : Type 0} (t : Bool) (f : X → ℤ) (xs : List X) → only t (sum_z f xs) ≡ sum_z (λ x. only t (f x)) xs
sum_only t f [] = elim t as (λ b. only b (pos 0) ≡ pos 0) [ true ↦ refl | false ↦ refl ]
sum_only t f (x ∷ xs) = omega (arith, ints, only_add t (f x) (sum_z f xs), sum_only t f xs)

pub members_ext : (n : ℕ) (f g : ℕ → ℤ) → ((m : ℕ) → m < n → f m ≡ g m) → members n f ≡ members n g
unfolding members
members_ext zero f g e = refl
members_ext (suc n) f g e = omega (arith, ints, e n (omega arith), members_ext n f g (λ m h. e m (omega arith)))

pub members_add : (n : ℕ) (f g : ℕ → ℤ) → members n (λ m. f m +ℤ g m) ≡ members n f +ℤ members n g
unfolding members
members_add zero f g = refl
members_add (suc n) f g = omega (arith, ints, members_add n f g)

pub members_sub : (n : ℕ) (f g : ℕ → ℤ) → members n (λ m. f m -ℤ g m) ≡ members n f -ℤ members n g
unfolding members
members_sub zero f g = refl
members_sub (suc n) f g = omega (arith, ints, members_sub n f g)

pub members_zero : (n : ℕ) → members n (λ m. pos 0) ≡ pos 0
unfolding members
members_zero zero = refl
members_zero (suc n) = omega (arith, ints, members_zero n)

-- the two sums change places
pub members_sum : {X : Type 0} (n : ℕ) (f : ℕ → X → ℤ) (xs : List X) → members n (λ m. sum_z (f m) xs) ≡ sum_z (λ x. members n (λ m. f m x)) xs
members_sum n f [] = members_zero n
members_sum n f (x ∷ xs) = omega (arith, ints, members_add n (λ m. f m x) (λ m. sum_z (f m) xs), members_sum n f xs)

-- only one member brings anything
pub members_none : (n a : ℕ) (f : ℕ → ℤ) → n ≤ a → members n (λ m. only (eqb m a) (f m)) ≡ pos 0
unfolding members
members_none zero a f h = refl
members_none (suc n) a f h = rw (ne_eqb n a (omega arith)) (omega (arith, ints, members_none n a f (omega arith)))

pub members_pick : (n a : ℕ) (f : ℕ → ℤ) → a < n → members n (λ m. only (eqb m a) (f m)) ≡ f a
unfolding members
members_pick zero a f h = absurd (omega arith)
members_pick (suc n) a f h = by (cases_eq n a) (members_pick n a f)
  where
    by : (n ≡ a) ⊎ (n ≡ a → ⊥) → (a < n → members n (λ m. only (eqb m a) (f m)) ≡ f a) → members (suc n) (λ m. only (eqb m a) (f m)) ≡ f a
    by (inl e) ih = rw (eq-eqb n a e) (omega (arith, ints, members_none n a f (omega arith), ap f e))
    by (inr d) ih = rw (ne_eqb n a d) (omega (arith, ints, ih (omega arith)))

-- one element replaced
pub sum_set : {X : Type 0} (f : X → ℤ) (xs : List X) (i : ℕ) (y d : X) → i < length xs → sum_z f (set xs i y) ≡ sum_z f xs +ℤ (f y -ℤ f (get_or xs i d))
sum_set f [] i y d h = absurd (omega arith)
sum_set f (x ∷ xs) zero y d h = omega (arith, ints)
sum_set f (x ∷ xs) (suc i) y d h = omega (arith, ints, sum_set f xs i y d (omega arith))

-- what passes everywhere passes at each place
pub every_at : {X : Type 0} (p : X → Bool) (xs : List X) (i : ℕ) (d : X) → every p xs ≡ true → i < length xs → p (get_or xs i d) ≡ true
every_at p [] i d e h = absurd (omega arith)
every_at p (x ∷ xs) zero d e h = (and_parts (p x) (every p xs) e).0
every_at p (x ∷ xs) (suc i) d e h = every_at p xs i d (and_parts (p x) (every p xs) e).1 (omega arith)

pub every_set : {X : Type 0} (p : X → Bool) (xs : List X) (i : ℕ) (y : X) → every p xs ≡ true → p y ≡ true → every p (set xs i y) ≡ true
every_set p [] i y e h = refl
every_set p (x ∷ xs) zero y e h = and_from (p y) (every p xs) h (and_parts (p x) (every p xs) e).1
every_set p (x ∷ xs) (suc i) y e h = and_from (p x) (every p (set xs i y)) (and_parts (p x) (every p xs) e).0 (every_set p xs i y (and_parts (p x) (every p xs) e).1 h)

-- a weaker test passes too
pub every_map : {X : Type 0} (p q : X → Bool) (xs : List X) → ((x : X) → p x ≡ true → q x ≡ true) → every p xs ≡ true → every q xs ≡ true
every_map p q [] f e = refl
every_map p q (x ∷ xs) f e = and_from (q x) (every q xs) (f x (and_parts (p x) (every p xs) e).0) (every_map p q xs f (and_parts (p x) (every p xs) e).1)
