-- The lines once a plan is booked.
use Rattle.std.proofs.Common.{◌≡◌, ℕ, zero, suc, ◌+◌, ◌<◌, ◌≤◌, true, List, [], ◌∷◌, length, get_or, take, set, replicate, ℤ, pos, ◌-ℤ◌, sym, refl, ap, ◌∙◌, add-one, arith}
use Rattle.std.proofs.lemmas.Int.{ints}
use Rattle.std.proofs.lemmas.Bool.{and_parts, and_from}
use Rattle.credit.specs.declared.line.Line.{Line}
use Rattle.credit.specs.Sums.{every}
use Rattle.credit.specs.Net.{bounded, no_line}
use Rattle.credit.specs.Plans.{booked, moved, with_debt, roomy, fits}
use Rattle.credit.proofs.Sums.{every_map, every_at}
use Rattle.credit.proofs.Bounds.{bounded_roomy, bounded_moved}

pub length_booked : (ls : List Line) (xs : List ℤ) → length (booked ls xs) ≡ length ls
length_booked [] xs = refl
length_booked (l ∷ ls) [] = refl
length_booked (l ∷ ls) (x ∷ xs) = ap suc (length_booked ls xs)

pub booked_at : (ls : List Line) (xs : List ℤ) (i : ℕ) → i < length ls → i < length xs → get_or (booked ls xs) i no_line ≡ moved (get_or ls i no_line) (get_or xs i (pos 0))
booked_at [] xs i h k = absurd (omega arith)
booked_at (l ∷ ls) [] i h k = absurd (omega arith)
booked_at (l ∷ ls) (x ∷ xs) zero h k = refl
booked_at (l ∷ ls) (x ∷ xs) (suc i) h k = booked_at ls xs i (omega arith) (omega arith)

pub booked_none : (ls : List Line) → booked ls [] ≡ ls
booked_none [] = refl
booked_none (l ∷ ls) = refl

-- places behind the last line do not count
pub booked_enough : (ls : List Line) (xs : List ℤ) (n : ℕ) → length ls ≤ n → booked ls (take n xs) ≡ booked ls xs
booked_enough [] xs n h = refl
booked_enough (l ∷ ls) [] zero h = absurd (omega arith)
booked_enough (l ∷ ls) [] (suc n) h = refl
booked_enough (l ∷ ls) (x ∷ xs) zero h = absurd (omega arith)
booked_enough (l ∷ ls) (x ∷ xs) (suc n) h = ap (λ t. moved l x ∷ t) (booked_enough ls xs n (omega arith))

-- lines that are not yet reached stay
pub booked_ahead : (ls : List Line) (xs : List ℤ) (i j : ℕ) → i ≤ j → get_or (booked ls (take i xs)) j no_line ≡ get_or ls j no_line
booked_ahead [] xs i j h = refl
booked_ahead (l ∷ ls) [] zero j h = refl
booked_ahead (l ∷ ls) [] (suc i) j h = refl
booked_ahead (l ∷ ls) (x ∷ xs) zero j h = refl
booked_ahead (l ∷ ls) (x ∷ xs) (suc i) zero h = absurd (omega arith)
booked_ahead (l ∷ ls) (x ∷ xs) (suc i) (suc j) h = booked_ahead ls xs i j (omega arith)

-- bounded lines fit
pub bounded_roomies : (ls : List Line) → every bounded ls ≡ true → every roomy ls ≡ true
bounded_roomies ls e = every_map bounded roomy ls bounded_roomy e

-- a plan that fits keeps bounded lines bounded
pub bounded_booked : (ls : List Line) (xs : List ℤ) → every bounded ls ≡ true → fits ls xs ≡ true → every bounded (booked ls xs) ≡ true
bounded_booked [] xs e f = refl
bounded_booked (l ∷ ls) [] e f = e
bounded_booked (l ∷ ls) (x ∷ xs) e f =
    let p = and_parts (bounded l) (every bounded ls) e in
    let q = and_parts (roomy (moved l x)) (every roomy (booked ls xs)) f in
    and_from (bounded (moved l x)) (every bounded (booked ls xs)) (bounded_moved l x p.0 q.0) (bounded_booked ls xs p.1 q.1)

-- a plan of nothing changes nothing
pub still : (l : Line) → moved l (pos 0) ≡ l
still l = ap (with_debt l) (nought l.debt)
  where
    nought : (d : ℤ) → d -ℤ pos 0 ≡ d
    nought d = omega (arith, ints)

-- a line without a place in the plan counts as one with a 0
pub booked_any : (ls : List Line) (xs : List ℤ) (i : ℕ) → i < length ls → get_or (booked ls xs) i no_line ≡ moved (get_or ls i no_line) (get_or xs i (pos 0))
booked_any [] xs i h = absurd (omega arith)
booked_any (l ∷ ls) [] i h = sym (still (get_or (l ∷ ls) i no_line))
booked_any (l ∷ ls) (x ∷ xs) zero h = refl
booked_any (l ∷ ls) (x ∷ xs) (suc i) h = booked_any ls xs i (omega arith)

kept : (ls : List Line) (i : ℕ) → i < length ls → set ls i (moved (get_or ls i no_line) (pos 0)) ≡ ls
kept [] i h = absurd (omega arith)
kept (l ∷ ls) zero h = ap (λ t. t ∷ ls) (still l)
kept (l ∷ ls) (suc i) h = ap (λ t. l ∷ t) (kept ls i (omega arith))

next_suc : (ls : List Line) (xs : List ℤ) (i : ℕ) → i < length ls → booked ls (take (suc i) xs) ≡ set (booked ls (take i xs)) i (moved (get_or ls i no_line) (get_or xs i (pos 0)))
next_suc [] xs i h = absurd (omega arith)
next_suc (l ∷ ls) [] zero h = ap (λ t. t ∷ ls) (sym (still l))
next_suc (l ∷ ls) [] (suc i) h = ap (λ t. l ∷ t) (sym (kept ls i (omega arith)))
next_suc (l ∷ ls) (x ∷ xs) zero h = ap (λ t. moved l x ∷ t) (booked_none ls)
next_suc (l ∷ ls) (x ∷ xs) (suc i) h = ap (λ t. moved l x ∷ t) (next_suc ls xs i (omega arith))

-- one place more of a plan that may be shorter than the lines
pub booked_next : (ls : List Line) (xs : List ℤ) (i : ℕ) → i < length ls → booked ls (take (i + 1) xs) ≡ set (booked ls (take i xs)) i (moved (get_or ls i no_line) (get_or xs i (pos 0)))
booked_next ls xs i h = rw add-one (next_suc ls xs i h)

pub next_line : (ls : List Line) (xs : List ℤ) (i : ℕ) → get_or (booked ls (take i xs)) i no_line ≡ get_or ls i no_line
next_line ls xs i = booked_ahead ls xs i i (omega arith)

-- a line is within its bounds once its number is moved
pub bounded_next : (ls : List Line) (xs : List ℤ) (i : ℕ) → every bounded ls ≡ true → fits ls xs ≡ true → i < length ls → bounded (moved (get_or ls i no_line) (get_or xs i (pos 0))) ≡ true
bounded_next ls xs i e f h = ap bounded (sym (booked_any ls xs i h)) ∙ every_at bounded (booked ls xs) i no_line (bounded_booked ls xs e f) (omega (arith, length_booked ls xs))

-- the steps of a loop that books a plan line by line
pub ruleset book_steps = (ints, booked_none, booked_next, booked_enough, bounded_next, next_line)

pub booked_zeros : (ls : List Line) (k : ℕ) → booked ls (replicate k (pos 0)) ≡ ls
booked_zeros [] k = refl
booked_zeros (l ∷ ls) zero = refl
booked_zeros (l ∷ ls) (suc k) = ap (λ t. t ∷ booked ls (replicate k (pos 0))) (still l) ∙ ap (λ t. l ∷ t) (booked_zeros ls k)

pub fits_none : (ls : List Line) → every bounded ls ≡ true → fits ls [] ≡ true
fits_none ls e = ap (every roomy) (booked_none ls) ∙ bounded_roomies ls e

pub fits_zeros : (ls : List Line) (k : ℕ) → every bounded ls ≡ true → fits ls (replicate k (pos 0)) ≡ true
fits_zeros ls k e = ap (every roomy) (booked_zeros ls k) ∙ bounded_roomies ls e
