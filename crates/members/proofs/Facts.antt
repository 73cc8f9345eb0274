-- What the equations of groups say of their members.
use Rattle.std.proofs.Common.{◌≡◌, ℕ, ◌<◌, false, not, ◌&&◌, ◌||◌, eqb, ltb, ◌⊎◌, inl, inr, arith}
use Rattle.std.proofs.lemmas.Bool.{cases_Bool, both_ways}
use Rattle.members.specs.Groups.{inside, Has}
use Rattle.members.specs.Walks.{Took}
use Rattle.members.proofs.Digits.{inside_zero}

pub has_or_not : (g m : ℕ) → Has g m ⊎ (Has g m → ⊥)
has_or_not g m = elim (cases_Bool (inside g m)) [ inl y ↦ inl y | inr n ↦ inr (both_ways (inside g m) n) ]

pub has_not : (g m : ℕ) → (Has g m → ⊥) → inside g m ≡ false
has_not g m not_in = grind arith

pub has_none : (m : ℕ) → Has 0 m → ⊥
has_none m h = both_ways (inside 0 m) (inside_zero m) h

module _ (a b r : ℕ) (is : (n : ℕ) → inside r n ≡ (inside a n || inside b n)) (n : ℕ) where
  pub union_left : Has a n → Has r n
  union_left h = grind (arith, is n)

  pub union_right : Has b n → Has r n
  union_right h = grind (arith, is n)

  pub union_either : Has r n → Has a n ⊎ Has b n
  union_either h = grind (arith, is n)

module _ (a b r : ℕ) (is : (n : ℕ) → inside r n ≡ (inside a n && not (inside b n))) (n : ℕ) where
  pub minus_only : Has r n → Has a n × (Has b n → ⊥)
  minus_only h = (grind (arith, is n), λ y. grind (arith, is n))

  pub minus_all : Has a n → (Has b n → ⊥) → Has r n
  minus_all h not_in = grind (arith, is n)

module _ (g m r : ℕ) (is : (n : ℕ) → inside r n ≡ (inside g n || (eqb n m && ltb n 64))) where
  pub with_old : (n : ℕ) → Has g n → Has r n
  with_old n h = grind (arith, is n)

  pub with_new : m < 64 → Has r m
  with_new l = grind (arith, is m)

  pub with_only : (n : ℕ) → Has r n → Has g n ⊎ (n ≡ m)
  with_only n h = grind (arith, is n)

module _ (g m h : ℕ) (t : Took g m h) (n : ℕ) where
  pub took_only : Has h n → Has g n × (n ≡ m → ⊥)
  took_only y = (grind (arith, t.rest n), λ e. grind (arith, t.rest n))

  pub took_all : Has g n → (n ≡ m → ⊥) → Has h n
  took_all y ne = grind (arith, t.rest n)
