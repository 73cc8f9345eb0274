-- The list of a group's members.
use Rattle.std.proofs.Common.{◌≡◌, ℕ, zero, suc, ◌+◌, ◌/◌, ◌%◌, ◌^◌, ◌<◌, ◌≤◌, true, false, not, ◌&&◌, eqb, ltb, [], ◌∷◌, length, sym, refl, ap, ◌∙◌, inl, inr, w64, pow-suc, div-one, add-one, arith}
use lib.Bits.{bit_or}
use lib.Count.{ones, ones_step}
use Rattle.std.specs.Int.{trailing_zeros}
use Rattle.std.proofs.lemmas.Nat.{shr-shr}
use Rattle.std.proofs.lemmas.Bool.{cases_eq, cases_Bool, cond-true, cond-false, ne_eqb}
use Rattle.std.proofs.Math.Bool.{and-true}
use Rattle.members.specs.Groups.{inside, Has, members_from, members_of}
use Rattle.members.specs.Walks.{IsLowest, Took}
use Rattle.members.proofs.Digits.{single_in, inside_zero, inside_or, inside_power, lowest_digit}

pub from_in : (k b g : ℕ) → inside g b ≡ true → members_from (suc k) b g ≡ b ∷ members_from k (suc b) g
unfolding members_from
from_in k b g h = cond-true _ _ _ h

pub from_out : (k b g : ℕ) → inside g b ≡ false → members_from (suc k) b g ≡ members_from k (suc b) g
unfolding members_from
from_out k b g h = cond-false _ _ _ h

from_none : (b g : ℕ) → members_from 0 b g ≡ []
unfolding members_from
from_none b g = refl

pub zero_listed : (k b : ℕ) → members_from k b 0 ≡ []
zero_listed zero b = from_none b 0
zero_listed (suc k) b = from_out k b 0 (inside_zero b) ∙ zero_listed k (suc b)

-- groups alike from b on have the same members from there
from_alike : (k b g h : ℕ) → ((n : ℕ) → b ≤ n → inside h n ≡ inside g n) → members_from k b g ≡ members_from k b h
from_alike zero b g h e = from_none b g ∙ sym (from_none b h)
from_alike (suc k) b g h e = grind (arith, from_in, from_out, e b, from_alike k (suc b) g h, cases_Bool (inside g b))

module _ (g h m : ℕ) (holds : inside g m ≡ true) (none_below : (n : ℕ) → n < m → inside g n ≡ false) (rest : (n : ℕ) → inside h n ≡ (inside g n && not (eqb n m))) where
  rest_above : (n : ℕ) → suc m ≤ n → inside h n ≡ inside g n
  rest_above n l = rest n ∙ ap (λ x. inside g n && not x) (ne_eqb n m (λ e. omega arith)) ∙ and-true (inside g n)

  -- the lowest member stands first, and the others follow
  from_lowest : (k b : ℕ) → b ≤ m → m < b + k → members_from k b g ≡ m ∷ members_from k b h
  from_lowest zero b l lt = absurd (omega arith)
  from_lowest (suc k) b l lt =
      elim (cases_eq b m) [
        | inl e ↦ grind (arith, from_in k b g, from_out k b h, holds, rest m, from_alike k (suc m) g h rest_above)
        | inr d ↦ grind (arith, from_out k b g, from_out k b h, none_below b, rest b, from_lowest k (suc b))
      ]

  pub took : m < 64 → Took g m h
  unfolding members_of
  took l = record { small = l; holds = holds; rest = rest; listed = from_lowest 64 0 (omega arith) (omega arith) }

-- the lowest member is taken out
pub took_lowest : (g m h : ℕ) → IsLowest g m → ((n : ℕ) → inside h n ≡ (inside g n && not (eqb n m && ltb n 64))) → Took g m h
took_lowest g m h l e = took g h m l.holds l.none_below (λ n. e n ∙ ap (λ x. inside g n && not x) (sym (single_in m n l.small))) l.small

-- ---- how many members a group has

none : ones 0 ≡ length {A = ℕ} []
unfolding ones
none = refl

pub from_ones : (k b g : ℕ) → g / 2 ^ b < 2 ^ k → ones (g / 2 ^ b) ≡ length (members_from k b g)
unfolding inside
from_ones zero b g l = let z : g / 2 ^ b ≡ 0 = omega arith in ap ones z ∙ none ∙ ap length (sym (from_none b g))
from_ones (suc k) b g l =
    let next : g / 2 ^ b / 2 ≡ g / 2 ^ suc b = shr-shr g b 1 ∙ ap (λ x. g / 2 ^ x) (add-one b) in
    let small : g / 2 ^ suc b < 2 ^ k = omega (arith, pow-suc 2 k) in
    let step = ones_step (g / 2 ^ b) ∙ ap (λ x. g / 2 ^ b % 2 + ones x) next in
    grind (arith, from_in k b g, from_out k b g, from_ones k (suc b) g small, step)

pub ones_listed : (g : ℕ) → g < 2 ^ 64 → ones g ≡ length (members_of g)
unfolding members_of
ones_listed g l = ap ones (sym (div-one g)) ∙ from_ones 64 0 g (omega (arith, div-one g))

pub none_listed : (g : ℕ) → g ≡ 0 → members_of g ≡ []
unfolding members_of
none_listed g e = ap (λ x. members_from 64 0 x) e ∙ zero_listed 64 0

from_le : (k b g : ℕ) → length (members_from k b g) ≤ k
from_le zero b g = grind (arith, from_none)
from_le (suc k) b g = grind (arith, from_in, from_out, from_le k (suc b) g, cases_Bool (inside g b))

module _ (a c : ℕ) (sub : (n : ℕ) → Has a n → Has c n) where
  sub_le : (k b : ℕ) → length (members_from k b a) ≤ length (members_from k b c)
  sub_le zero b = grind (arith, from_none)
  sub_le (suc k) b = grind (arith, from_in, from_out, sub b, sub_le k (suc b), cases_Bool (inside a b), cases_Bool (inside c b))

  module _ (m : ℕ) (lacks : inside a m ≡ false) (has : inside c m ≡ true) where
    sub_lt : (k b : ℕ) → b ≤ m → m < b + k → length (members_from k b a) < length (members_from k b c)
    sub_lt zero b l h = absurd (omega arith)
    sub_lt (suc k) b l h =
        elim (cases_eq b m) [
          | inl e ↦ grind (arith, from_out k b a, from_in k b c, sub_le k (suc b))
          | inr d ↦ grind (arith, from_in, from_out, sub b, sub_lt k (suc b), cases_Bool (inside a b), cases_Bool (inside c b))
        ]

    -- a group that holds more has a higher count
    pub count_more : m < 64 → length (members_of a) < length (members_of c)
    unfolding members_of
    count_more l = sub_lt 64 0 (omega arith) (omega arith)

-- a group that lacks a member has fewer than 64
pub count_lacks : (g m : ℕ) → m < 64 → inside g m ≡ false → length (members_of g) < 64
unfolding members_of
count_lacks g m l lacks =
    let c = bit_or g (2 ^ m) in
    let sub : (n : ℕ) → Has g n → Has c n = λ n h. grind (arith, inside_or g (2 ^ m) n) in
    let has : inside c m ≡ true = grind (arith, inside_or g (2 ^ m) m, inside_power m m) in
    omega (arith, count_more g c sub m lacks has l, from_le 64 0 c)

pub count_some : (g m : ℕ) → m < 64 → Has g m → 0 < length (members_of g)
count_some g m l h = omega (arith, count_more 0 g (λ n z. grind (arith, inside_zero)) m (inside_zero m) h l)

-- a group that is not empty has a member
pub some_member : (g : ℕ) → 0 < g → g < 2 ^ 64 → (m : ℕ) × (m < 64) × Has g m
some_member g p l = let t = lowest_digit g p l in (trailing_zeros w64 g, t.small, t.holds)
