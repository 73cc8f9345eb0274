-- The first line that joins two members, and what goes on it.
use Rattle.std.proofs.Common.{◌≡◌, ℕ, ◌<◌, Bool, true, false, cond, eqb, ltb, List, length, get_or, ℤ, pos, neg_ℤ, ◌≤ℤ◌, Some, None, refl, subst, arith}
use Rattle.std.specs.List.{position, position_or_len}
use Rattle.std.proofs.lemmas.List.Sums.{passes_at_first}
use Rattle.std.proofs.lemmas.Int.{ints}
use Rattle.std.proofs.lemmas.Bool.{cond_both, ltb-true}
use Rattle.std.specs.Int.{int_min}
use Rattle.credit.specs.declared.line.Line.{Line}
use Rattle.credit.specs.Net.{bounded, no_line}
use Rattle.credit.specs.Rooms.{room_onward, room_back}
use Rattle.credit.specs.Plans.{moved, roomy, room_from}
use Rattle.credit.specs.Pairs.{joins}
use Rattle.credit.proofs.Bounds.{bounded_facts, roomy_facts}

-- where the first that joins them stands, it joins them
pub first_at : (p q : ℕ) (ls : List Line) (i : ℕ) → position (joins p q) ls ≡ Some i → (i < length ls) × (joins p q (get_or ls i no_line) ≡ true)
first_at p q ls i e = by (ltb (position_or_len (joins p q) ls) (length ls)) refl e
  where
    by : (b : Bool) → ltb (position_or_len (joins p q) ls) (length ls) ≡ b → cond b (Some (position_or_len (joins p q) ls)) None ≡ Some i → (i < length ls) × (joins p q (get_or ls i no_line) ≡ true)
    by true t f =
        let h : position_or_len (joins p q) ls ≡ i = cc in
        let less = ltb-true _ _ t in
        (omega arith, subst (λ j. joins p q (get_or ls j no_line) ≡ true) h (passes_at_first (joins p q) ls no_line less))
    by false t f = let z : ◌≡◌ {A = ℕ} 0 1 = cc in absurd (omega arith)

-- a line that is roomy has no negative room from either end
pub room_from_low : (l : Line) (p : ℕ) → roomy l ≡ true → pos 0 ≤ℤ room_from l p
room_from_low l p h = let f = roomy_facts l h in cond_both (eqb l.a p) (room_onward l) (room_back l) (λ r. pos 0 ≤ℤ r) (λ _. f.0) (λ _. f.1)

-- a plan number under which a line within its bounds is roomy is small
pub planned_range : (l : Line) (x : ℤ) → bounded l ≡ true → roomy (moved l x) ≡ true → (neg_ℤ (pos 2000000) ≤ℤ x) × (x ≤ℤ pos 2000000)
planned_range l x h k =
    let b = bounded_facts l h in
    let r = roomy_facts (moved l x) k in
    (omega (arith, ints), omega (arith, ints))

pub record Least (n r : ℤ) : Type 0 where
  pub low : pos 0 ≤ℤ int_min n r
  pub amount : int_min n r ≤ℤ n
  pub room : int_min n r ≤ℤ r

pub least : (n r : ℤ) → pos 0 ≤ℤ n → pos 0 ≤ℤ r → Least n r
least n r h k = record { low = grind (arith, ints); amount = grind (arith, ints); room = grind (arith, ints) }
