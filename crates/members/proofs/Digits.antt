-- The laws of a group's digits.
use Rattle.std.proofs.Common.{◌≡◌, ℕ, ◌-◌, ◌*◌, ◌/◌, ◌%◌, ◌^◌, ◌<◌, ◌≤◌, min, max, true, false, not, ◌&&◌, ◌||◌, eqb, ltb, bit_and, bit_or, w64, sym, refl, ap, ◌∙◌, inl, inr, arith}
use Rattle.std.proofs.lemmas.Nat.{one_shl}
use Rattle.std.proofs.lemmas.Nat.Bits.{shr_and_one, bit_at_or, bit_at_and, bit_at_not, bit_at-zero, bit_at-lt, bit_at_above, bit_at-pow_same, bit_at-pow_other, bit_at-trailing_zeros}
use Rattle.std.proofs.lemmas.Bool.{cases_eq, cases_lt, eq-eqb, ne_eqb, le-ltb, both_ways}
use Rattle.std.specs.Int.{bit_at, trailing_zeros}
use Rattle.members.specs.Groups.{inside}
use Rattle.members.specs.Walks.{IsLowest}

-- of two binary digits
one_max : (x y : ℕ) → x < 2 → y < 2 → eqb (max x y) 1 ≡ (eqb x 1 || eqb y 1)
one_max x y p q = grind arith

one_min : (x y : ℕ) → x < 2 → y < 2 → eqb (min x y) 1 ≡ (eqb x 1 && eqb y 1)
one_min x y p q = grind arith

one_not : (x : ℕ) → x < 2 → eqb (1 - x) 1 ≡ not (eqb x 1)
one_not x p = grind arith

pub inside_zero : (n : ℕ) → inside 0 n ≡ false
unfolding inside
inside_zero n = ap (λ x. eqb x 1) (bit_at-zero n)

pub inside_or : (a b n : ℕ) → inside (bit_or a b) n ≡ (inside a n || inside b n)
unfolding inside
inside_or a b n = ap (λ x. eqb x 1) (bit_at_or a b n) ∙ one_max (bit_at a n) (bit_at b n) (bit_at-lt a n) (bit_at-lt b n)

inside_and : (a b n : ℕ) → inside (bit_and a b) n ≡ (inside a n && inside b n)
unfolding inside
inside_and a b n = ap (λ x. eqb x 1) (bit_at_and a b n) ∙ one_min (bit_at a n) (bit_at b n) (bit_at-lt a n) (bit_at-lt b n)

-- a number below 2 ^ k has no digit at k or above
inside_high : (k g n : ℕ) → g < 2 ^ k → k ≤ n → inside g n ≡ false
unfolding inside
inside_high k g n h l = ap (λ x. eqb x 1) (bit_at_above g k n h l)

pub inside_below : (k g n : ℕ) → g < 2 ^ k → inside g n ≡ true → n < k
inside_below k g n h i = elim (cases_lt n k) [ inl l ↦ l | inr l ↦ absurd (both_ways (inside g n) (inside_high k g n h l) i) ]

pub inside_past : (g n : ℕ) → g < 2 ^ 64 → 64 ≤ n → ltb n 64 ≡ inside g n
inside_past g n h l = le-ltb n 64 l ∙ sym (inside_high 64 g n h l)

pub inside_shifted : (g n : ℕ) → eqb (bit_and (g / 2 ^ n) 1) 1 ≡ inside g n
unfolding inside
inside_shifted g n = ap (λ x. eqb x 1) (shr_and_one g n)

-- a power of two has one digit
pub inside_power : (k n : ℕ) → inside (2 ^ k) n ≡ eqb n k
unfolding inside
inside_power k n =
    elim (cases_eq n k) [
      | inl e ↦ rw e (ap (λ x. eqb x 1) (bit_at-pow_same k) ∙ sym (eq-eqb k k refl))
      | inr d ↦ ap (λ x. eqb x 1) (bit_at-pow_other k n d) ∙ sym (ne_eqb n k d)
    ]

-- the same digit, if it is a member's
pub single_in : (k n : ℕ) → k < 64 → eqb n k ≡ (eqb n k && ltb n 64)
single_in k n l = grind arith

pub single_at : (k n : ℕ) → k < 64 → inside (1 * 2 ^ k % 2 ^ 64) n ≡ (eqb n k && ltb n 64)
single_at k n l = ap (λ x. inside x n) (one_shl k 64 l) ∙ inside_power k n ∙ single_in k n l

pub single_past : (k n : ℕ) → 64 ≤ k → inside 0 n ≡ (eqb n k && ltb n 64)
single_past k n l = grind (arith, inside_zero)

-- the digits of !b
inside_not : (b n : ℕ) → b < 2 ^ 64 → n < 64 → inside (2 ^ 64 - 1 - b) n ≡ not (inside b n)
unfolding inside
inside_not b n h l = ap (λ x. eqb x 1) (bit_at_not w64 b n h l) ∙ one_not (bit_at b n) (bit_at-lt b n)

pub inside_minus : (a b n : ℕ) → a < 2 ^ 64 → b < 2 ^ 64 → inside (bit_and a (2 ^ 64 - 1 - b)) n ≡ (inside a n && not (inside b n))
inside_minus a b n la lb =
    inside_and a (2 ^ 64 - 1 - b) n
    ∙ elim (cases_lt n 64) [
      | inl l ↦ ap (λ x. inside a n && x) (inside_not b n lb l)
      | inr l ↦ ap (λ x. x && inside (2 ^ 64 - 1 - b) n) (inside_high 64 a n la l) ∙ ap (λ x. x && not (inside b n)) (sym (inside_high 64 a n la l))
    ]

pub lowest_digit : (g : ℕ) → 0 < g → g < 2 ^ 64 → IsLowest g (trailing_zeros w64 g)
unfolding inside
lowest_digit g some l =
    let t = bit_at-trailing_zeros w64 g some l in
    record { small = t.0; holds = eq-eqb _ 1 t.1; none_below = λ n h. ap (λ x. eqb x 1) (t.2 n h) }
