-- One line's move, as a change of the plan at its place; flows one after another.
use Rattle.std.proofs.Common.{◌≡◌, ℕ, zero, suc, ◌<◌, Bool, true, false, cond, ◌&&◌, eqb, ◌≢◌, ◌⊎◌, List, [], ◌∷◌, length, get_or, set, ℤ, pos, ◌+ℤ◌, ◌-ℤ◌, ◌≤ℤ◌, sym, refl, ap, ◌∙◌, inl, inr, arith}
use Rattle.std.proofs.lemmas.Int.{ints}
use Rattle.std.proofs.lemmas.Bool.{and_parts, or_cases, eqb-true, eq-eqb, ne_eqb}
use Rattle.members.specs.Groups.{inside}
use Rattle.credit.specs.declared.line.Line.{Line}
use Rattle.credit.specs.Sums.{only, every}
use Rattle.credit.specs.Net.{no_line}
use Rattle.credit.specs.Rooms.{room_onward, room_back, room_out, line_room, room}
use Rattle.credit.specs.Plans.{booked, moved, sent, Flow, roomy, fits, sent_from, room_from}
use Rattle.credit.specs.Pairs.{joins}
use Rattle.credit.proofs.Sums.{only_add, only_sub, sum_set, every_set, every_at}
use Rattle.credit.proofs.Bounds.{roomy_facts, roomy_from}
use Rattle.credit.proofs.Booked.{booked_at, length_booked}

-- ---- flows
pub flow_none : (ls : List Line) (p q : ℕ) (x : List ℤ) → Flow ls p q (pos 0) x x
flow_none ls p q x m = none (eqb m p) (eqb m q) (sent m ls x)
  where
    none : (s t : Bool) (v : ℤ) → v ≡ (v +ℤ only s (pos 0)) -ℤ only t (pos 0)
    none true true v = omega (arith, ints)
    none true false v = omega (arith, ints)
    none false true v = omega (arith, ints)
    none false false v = omega (arith, ints)

-- on to the next member
pub flow_then : (ls : List Line) (p q r : ℕ) (n : ℤ) (x y z : List ℤ) → Flow ls p q n x y → Flow ls q r n y z → Flow ls p r n x z
flow_then ls p q r n x y z f g m = omega (arith, ints, f m, g m)

-- one amount and then another
pub flow_add : (ls : List Line) (p q : ℕ) (a b : ℤ) (x y z : List ℤ) → Flow ls p q a x y → Flow ls p q b y z → Flow ls p q (a +ℤ b) x z
flow_add ls p q a b x y z f g m = omega (arith, ints, f m, g m, only_add (eqb m p) a b, only_add (eqb m q) a b)

-- ---- the two directions of a line
-- a line joins p and q onward or back
pub joins_cases : (p q : ℕ) (l : Line) → joins p q l ≡ true → ((l.a ≡ p) × (l.b ≡ q)) ⊎ ((l.a ≡ q) × (l.b ≡ p))
joins_cases p q l e = by (or_cases (eqb p l.a && eqb q l.b) (eqb p l.b && eqb q l.a) e)
  where
    by : ((eqb p l.a && eqb q l.b) ≡ true) ⊎ ((eqb p l.b && eqb q l.a) ≡ true) → ((l.a ≡ p) × (l.b ≡ q)) ⊎ ((l.a ≡ q) × (l.b ≡ p))
    by (inl h) = let k = and_parts (eqb p l.a) (eqb q l.b) h in inl (sym (eqb-true p l.a k.0), sym (eqb-true q l.b k.1))
    by (inr h) = let k = and_parts (eqb p l.b) (eqb q l.a) h in inr (sym (eqb-true q l.a k.1), sym (eqb-true p l.b k.0))

pub sent_onward : (l : Line) (p : ℕ) (x n : ℤ) → l.a ≡ p → sent_from l p x n ≡ x +ℤ n
sent_onward l p x n e = rw (eq-eqb l.a p e)

pub sent_back : (l : Line) (p : ℕ) (x n : ℤ) → (l.a ≡ p → ⊥) → sent_from l p x n ≡ x -ℤ n
sent_back l p x n f = rw (ne_eqb l.a p f)

pub from_onward : (l : Line) (p : ℕ) → l.a ≡ p → room_from l p ≡ room_onward l
from_onward l p e = rw (eq-eqb l.a p e)

pub from_back : (l : Line) (p : ℕ) → (l.a ≡ p → ⊥) → room_from l p ≡ room_back l
from_back l p f = rw (ne_eqb l.a p f)

-- ---- one place of a plan changed
pub booked_set : (ls : List Line) (xs : List ℤ) (i : ℕ) (y : ℤ) → i < length ls → i < length xs → booked ls (set xs i y) ≡ set (booked ls xs) i (moved (get_or ls i no_line) y)
booked_set [] xs i y h k = absurd (omega arith)
booked_set (l ∷ ls) [] i y h k = absurd (omega arith)
booked_set (l ∷ ls) (x ∷ xs) zero y h k = refl
booked_set (l ∷ ls) (x ∷ xs) (suc i) y h k = ap (λ t. moved l x ∷ t) (booked_set ls xs i y (omega arith) (omega arith))

-- what a member sends on one line
abbrev carry : ℕ → Line → ℤ → ℤ
carry m l x = only (eqb m l.a) x -ℤ only (eqb m l.b) x

sent_set : (m : ℕ) (ls : List Line) (xs : List ℤ) (i : ℕ) (y : ℤ) → i < length ls → i < length xs → sent m ls (set xs i y) ≡ sent m ls xs +ℤ (carry m (get_or ls i no_line) y -ℤ carry m (get_or ls i no_line) (get_or xs i (pos 0)))
sent_set m [] xs i y h k = absurd (omega arith)
sent_set m (l ∷ ls) [] i y h k = absurd (omega arith)
sent_set m (l ∷ ls) (x ∷ xs) zero y h k = omega (arith, ints)
sent_set m (l ∷ ls) (x ∷ xs) (suc i) y h k = omega (arith, ints, sent_set m ls xs i y (omega arith) (omega arith))

carry_sent : (m p q : ℕ) (l : Line) (x n : ℤ) → joins p q l ≡ true → p ≢ q → carry m l (sent_from l p x n) -ℤ carry m l x ≡ only (eqb m p) n -ℤ only (eqb m q) n
carry_sent m p q l x n e d = by (joins_cases p q l e)
  where
    by : ((l.a ≡ p) × (l.b ≡ q)) ⊎ ((l.a ≡ q) × (l.b ≡ p)) → carry m l (sent_from l p x n) -ℤ carry m l x ≡ only (eqb m p) n -ℤ only (eqb m q) n
    by (inl j) =
        ap (λ t. carry m l t -ℤ carry m l x) (sent_onward l p x n j.0)
        ∙ rw (j.0, j.1) (omega (arith, ints, only_add (eqb m p) x n, only_add (eqb m q) x n))
    by (inr j) =
        ap (λ t. carry m l t -ℤ carry m l x) (sent_back l p x n (λ h. d (sym h ∙ j.0)))
        ∙ rw (j.0, j.1) (omega (arith, ints, only_sub (eqb m p) x n, only_sub (eqb m q) x n))

module _ (ls : List Line) (xs : List ℤ) (i : ℕ) (h : i < length ls) (k : i < length xs) where
  -- fits is kept where the changed line is roomy
  pub fits_set : (y : ℤ) → fits ls xs ≡ true → roomy (moved (get_or ls i no_line) y) ≡ true → fits ls (set xs i y) ≡ true
  fits_set y f r = ap (every roomy) (booked_set ls xs i y h k) ∙ every_set roomy (booked ls xs) i (moved (get_or ls i no_line) y) f r

  -- the line of a place is roomy under a plan that fits
  pub roomy_at : fits ls xs ≡ true → roomy (moved (get_or ls i no_line) (get_or xs i (pos 0))) ≡ true
  roomy_at f = ap roomy (sym (booked_at ls xs i h k)) ∙ every_at roomy (booked ls xs) i no_line f (omega (arith, length_booked ls xs))

  -- a move over one line that joins p and q is a flow
  pub flow_sent : (p q : ℕ) (n : ℤ) → joins p q (get_or ls i no_line) ≡ true → p ≢ q → Flow ls p q n xs (set xs i (sent_from (get_or ls i no_line) p (get_or xs i (pos 0)) n))
  flow_sent p q n j d m =
      let l = get_or ls i no_line in
      let x = get_or xs i (pos 0) in
      omega (arith, ints, sent_set m ls xs i (sent_from l p x n) h k, carry_sent m p q l x n j d)

-- a line stays roomy when no more than its room is moved over it
pub roomy_sent : (l : Line) (p : ℕ) (x n : ℤ) → roomy (moved l x) ≡ true → pos 0 ≤ℤ n → n ≤ℤ room_from (moved l x) p → roomy (moved l (sent_from l p x n)) ≡ true
roomy_sent l p x n r low high = by (eqb l.a p) high
  where
    by : (t : Bool) → n ≤ℤ cond t (room_onward (moved l x)) (room_back (moved l x)) → roomy (moved l (cond t (x +ℤ n) (x -ℤ n))) ≡ true
    by true k = let f = roomy_facts (moved l x) r in roomy_from (moved l (x +ℤ n)) (omega (arith, ints)) (omega (arith, ints))
    by false k = let f = roomy_facts (moved l x) r in roomy_from (moved l (x -ℤ n)) (omega (arith, ints)) (omega (arith, ints))

-- what one line's move takes from the room of a group
room_moved : (g p q : ℕ) (l : Line) (x n : ℤ) → joins p q l ≡ true → p ≢ q → room_out g (moved l (sent_from l p x n)) -ℤ room_out g (moved l x) ≡ only (inside g q) n -ℤ only (inside g p) n
room_moved g p q l x n e d = by (joins_cases p q l e)
  where
    onward : (s t : Bool) → line_room s t (moved l (x +ℤ n)) -ℤ line_room s t (moved l x) ≡ only t n -ℤ only s n
    onward true true = omega (arith, ints)
    onward true false = omega (arith, ints)
    onward false true = omega (arith, ints)
    onward false false = omega (arith, ints)

    back : (s t : Bool) → line_room s t (moved l (x -ℤ n)) -ℤ line_room s t (moved l x) ≡ only s n -ℤ only t n
    back true true = omega (arith, ints)
    back true false = omega (arith, ints)
    back false true = omega (arith, ints)
    back false false = omega (arith, ints)

    by : ((l.a ≡ p) × (l.b ≡ q)) ⊎ ((l.a ≡ q) × (l.b ≡ p)) → room_out g (moved l (sent_from l p x n)) -ℤ room_out g (moved l x) ≡ only (inside g q) n -ℤ only (inside g p) n
    by (inl j) =
        ap (λ t. room_out g (moved l t) -ℤ room_out g (moved l x)) (sent_onward l p x n j.0)
        ∙ onward (inside g l.a) (inside g l.b)
        ∙ ap (λ t. only (inside g t) n -ℤ only (inside g l.a) n) j.1
        ∙ ap (λ t. only (inside g q) n -ℤ only (inside g t) n) j.0
    by (inr j) =
        ap (λ t. room_out g (moved l t) -ℤ room_out g (moved l x)) (sent_back l p x n (λ h. d (sym h ∙ j.0)))
        ∙ back (inside g l.a) (inside g l.b)
        ∙ ap (λ t. only (inside g t) n -ℤ only (inside g l.b) n) j.0
        ∙ ap (λ t. only (inside g q) n -ℤ only (inside g t) n) j.1

-- the room of a group once n more is moved from p to q over one line
pub room_sent : (ls : List Line) (xs : List ℤ) (i : ℕ) → i < length ls → i < length xs → (g p q : ℕ) (n : ℤ) → joins p q (get_or ls i no_line) ≡ true → p ≢ q
    → room g (booked ls (set xs i (sent_from (get_or ls i no_line) p (get_or xs i (pos 0)) n))) ≡ (room g (booked ls xs) -ℤ only (inside g p) n) +ℤ only (inside g q) n
room_sent ls xs i h k g p q n j d =
    let l = get_or ls i no_line in
    let x = get_or xs i (pos 0) in
    let y = sent_from l p x n in
    ap (room g) (booked_set ls xs i y h k)
    ∙ sum_set (room_out g) (booked ls xs) i (moved l y) no_line (omega (arith, length_booked ls xs))
    ∙ ap (λ t. room g (booked ls xs) +ℤ (room_out g (moved l y) -ℤ room_out g t)) (booked_at ls xs i h k)
    ∙ omega (arith, ints, room_moved g p q l x n j d)
