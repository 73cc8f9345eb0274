-- Cancelling a ring keeps every net position and the bounds.
use Rattle.std.proofs.Common.{◌≡◌, ℕ, zero, suc, ◌<◌, Bool, true, false, not, ◌&&◌, ◌||◌, eqb, ◌≢◌, ◌⊎◌, List, [], ◌∷◌, length, get_or, ℤ, pos, ◌+ℤ◌, ◌-ℤ◌, neg_ℤ, ◌≤ℤ◌, ◌<ℤ◌, sym, refl, ap, ◌∙◌, subst, ap₂, subst₂, inl, inr, arith}
use lib.Signed.{le_z}
use Rattle.std.proofs.lemmas.Int.{ints, by_lt_z}
use Rattle.std.proofs.lemmas.Bool.{and_parts, and_from, or_parts, or_cases, or_left, or_right, not-true, eqb-true, eqb-false, eq-eqb, ne_eqb}
use Rattle.credit.specs.declared.line.Line.{Line}
use Rattle.credit.specs.Sums.{sum_z, only, every}
use Rattle.credit.specs.Net.{no_line, share, net, framed, affordable, bounded}
use Rattle.credit.specs.Plans.{with_debt}
use Rattle.credit.specs.Pairs.{joins, joined, distinct}
use Rattle.credit.proofs.Bounds.{Bounds, bounded_facts}
use Rattle.rings.specs.Rings.{line_owes, owes, walk, steps, has, once, on, Ring, lower_line, lower, cancel, Cancels, Tidied}
use Rattle.rings.specs.Steps.{Shrinks, Eases}

-- the lines without their debts
abbrev pub shape : List Line → List Line
shape [] = []
shape (l ∷ ls) = with_debt l (pos 0) ∷ shape ls

pub joined_shape : (x y : ℕ) (ls : List Line) → joined x y (shape ls) ≡ joined x y ls
joined_shape x y [] = refl
joined_shape x y (l ∷ ls) = ap (λ (v : Bool). joins x y l || v) (joined_shape x y ls)

no : {A : Type 0} → ◌≡◌ {A = ℕ} 0 1 → A
no e = absurd (omega arith)

-- ---- at most one line for each pair
pub distinct_shape : (ls : List Line) → distinct (shape ls) ≡ distinct ls
distinct_shape [] = refl
distinct_shape (l ∷ ls) = ap₂ (λ (x y : Bool). not x && y) (joined_shape l.a l.b ls) (distinct_shape ls)

shape_lower : (x y : ℕ) (c : ℤ) (ls : List Line) → shape (lower x y c ls) ≡ shape ls
shape_lower x y c [] = refl
shape_lower x y c (l ∷ ls) = ap (λ (t : List Line). with_debt l (pos 0) ∷ t) (shape_lower x y c ls)

pub shape_cancel : (ss : List (ℕ × ℕ)) (c : ℤ) (ls : List Line) → shape (cancel ss c ls) ≡ shape ls
shape_cancel [] c ls = refl
shape_cancel (s ∷ ss) c ls = shape_cancel ss c (lower s.0 s.1 c ls) ∙ shape_lower s.0 s.1 c ls

-- the pair of a line, in either order
joins_cases : (x y : ℕ) (l : Line) → joins x y l ≡ true → ((x ≡ l.a) × (y ≡ l.b)) ⊎ ((x ≡ l.b) × (y ≡ l.a))
joins_cases x y l e = go (or_cases (eqb x l.a && eqb y l.b) (eqb x l.b && eqb y l.a) e)
  where
    go : ((eqb x l.a && eqb y l.b) ≡ true) ⊎ ((eqb x l.b && eqb y l.a) ≡ true) → ((x ≡ l.a) × (y ≡ l.b)) ⊎ ((x ≡ l.b) × (y ≡ l.a))
    go (inl h) = let k = and_parts (eqb x l.a) (eqb y l.b) h in inl (eqb-true x l.a k.0, eqb-true y l.b k.1)
    go (inr h) = let k = and_parts (eqb x l.b) (eqb y l.a) h in inr (eqb-true x l.b k.0, eqb-true y l.a k.1)

joins_swap : (x y : ℕ) (l : Line) → joins x y l ≡ joins y x l
joins_swap x y l = mathlib.Core.Bool.or_comm (eqb x l.a && eqb y l.b) (eqb x l.b && eqb y l.a) ∙ ap₂ (λ (u v : Bool). u || v) (mathlib.Core.Bool.and_comm (eqb x l.b) (eqb y l.a)) (mathlib.Core.Bool.and_comm (eqb x l.a) (eqb y l.b))

joined_swap : (x y : ℕ) (ls : List Line) → joined x y ls ≡ joined y x ls
joined_swap x y [] = refl
joined_swap x y (l ∷ ls) = ap₂ (λ (u v : Bool). u || v) (joins_swap x y l) (joined_swap x y ls)

-- the lines behind one that joins a pair do not
behind : (x y : ℕ) (l : Line) (ls : List Line) → distinct (l ∷ ls) ≡ true → joins x y l ≡ true → joined x y ls ≡ false
behind x y l ls d e =
    let h = and_parts (not (joined l.a l.b ls)) (distinct ls) d in
    go (not-true (joined l.a l.b ls) h.0) (joins_cases x y l e)
  where
    go : joined l.a l.b ls ≡ false → ((x ≡ l.a) × (y ≡ l.b)) ⊎ ((x ≡ l.b) × (y ≡ l.a)) → joined x y ls ≡ false
    go n (inl k) = subst₂ (λ (u v : ℕ). joined u v ls ≡ false) (sym k.0) (sym k.1) n
    go n (inr k) = joined_swap x y ls ∙ subst₂ (λ (u v : ℕ). joined u v ls ≡ false) (sym k.1) (sym k.0) n

-- something counted once for each line of a pair
count_none : (x y : ℕ) (v : ℤ) (ls : List Line) → joined x y ls ≡ false → sum_z (λ l. only (joins x y l) v) ls ≡ pos 0
count_none x y v [] e = refl
count_none x y v (l ∷ ls) e =
    let h = or_parts (joins x y l) (joined x y ls) e in
    rw h.0 (omega (arith, ints, count_none x y v ls h.1))

count_one : (x y : ℕ) (v : ℤ) (ls : List Line) → distinct ls ≡ true → joined x y ls ≡ true → sum_z (λ l. only (joins x y l) v) ls ≡ v
count_one x y v [] d e = let z : ◌≡◌ {A = ℕ} 0 1 = cc in no z
count_one x y v (l ∷ ls) d e = go (joins x y l) refl (count_one x y v ls (and_parts (not (joined l.a l.b ls)) (distinct ls) d).1)
  where
    go : (b : Bool) → joins x y l ≡ b → (joined x y ls ≡ true → sum_z (λ l. only (joins x y l) v) ls ≡ v) → only (joins x y l) v +ℤ sum_z (λ l. only (joins x y l) v) ls ≡ v
    go true h ih = rw h (omega (arith, ints, count_none x y v ls (behind x y l ls d h)))
    go false h ih =
        let j : joined x y ls ≡ true = sym (ap (λ (b : Bool). b || joined x y ls) h) ∙ e in
        rw h (omega (arith, ints, ih j))

-- ---- nets
spread : (t : Bool) (d u v : ℤ) → only t ((d -ℤ u) +ℤ v) ≡ (only t d -ℤ only t u) +ℤ only t v
spread true d u v = refl
spread false d u v = refl

only_zero : (t : Bool) → only t (pos 0) ≡ pos 0
only_zero true = refl
only_zero false = refl

lower_share : (m x y : ℕ) (c : ℤ) (l : Line) → x ≢ y → share m (lower_line x y c l) ≡ share m l +ℤ only (joins x y l) (only (eqb m x) c -ℤ only (eqb m y) c)
lower_share m x y c l d = go (eqb x l.b && eqb y l.a) (eqb x l.a && eqb y l.b) refl refl
  where
    moved : (u v : ℤ) → share m (with_debt l ((l.debt -ℤ u) +ℤ v)) ≡ ((share m l -ℤ (only (eqb m l.a) u -ℤ only (eqb m l.b) u)) +ℤ (only (eqb m l.a) v -ℤ only (eqb m l.b) v))
    moved u v = omega (arith, ints, spread (eqb m l.a) l.debt u v, spread (eqb m l.b) l.debt u v)

    go : (p q : Bool) → (eqb x l.b && eqb y l.a) ≡ p → (eqb x l.a && eqb y l.b) ≡ q → share m (with_debt l ((l.debt -ℤ only p c) +ℤ only q c)) ≡ share m l +ℤ only (q || p) (only (eqb m x) c -ℤ only (eqb m y) c)
    go true true e f =
        let h = and_parts (eqb x l.b) (eqb y l.a) e in
        let k = and_parts (eqb x l.a) (eqb y l.b) f in
        absurd (d (eqb-true x l.a k.0 ∙ sym (eqb-true y l.a h.1)))
    go true false e f =
        let h = and_parts (eqb x l.b) (eqb y l.a) e in
        omega (arith, ints, moved c (pos 0), only_zero (eqb m l.a), only_zero (eqb m l.b), ap (λ (v : ℕ). only (eqb m v) c) (eqb-true x l.b h.0), ap (λ (v : ℕ). only (eqb m v) c) (eqb-true y l.a h.1))
    go false true e f =
        let h = and_parts (eqb x l.a) (eqb y l.b) f in
        omega (arith, ints, moved (pos 0) c, only_zero (eqb m l.a), only_zero (eqb m l.b), ap (λ (v : ℕ). only (eqb m v) c) (eqb-true x l.a h.0), ap (λ (v : ℕ). only (eqb m v) c) (eqb-true y l.b h.1))
    go false false e f = omega (arith, ints, moved (pos 0) (pos 0), only_zero (eqb m l.a), only_zero (eqb m l.b))

lower_sum : (m x y : ℕ) (c : ℤ) (ls : List Line) → x ≢ y → net m (lower x y c ls) ≡ net m ls +ℤ sum_z (λ l. only (joins x y l) (only (eqb m x) c -ℤ only (eqb m y) c)) ls
lower_sum m x y c [] d = refl
lower_sum m x y c (l ∷ ls) d = omega (arith, ints, lower_share m x y c l d, lower_sum m x y c ls d)

-- what the steps bring a member
abbrev brings : ℕ → ℤ → List (ℕ × ℕ) → ℤ
brings m c ss = sum_z (λ s. only (eqb m s.0) c -ℤ only (eqb m s.1) c) ss

-- every step is between two different members who have a line
abbrev Lined : List (ℕ × ℕ) → List Line → Type 0
Lined [] ls = Unit {0}
Lined (s ∷ ss) ls = (s.0 ≢ s.1) × (joined s.0 s.1 ls ≡ true) × Lined ss ls

lined_alike : (ss : List (ℕ × ℕ)) (ls ks : List Line) → shape ls ≡ shape ks → Lined ss ls → Lined ss ks
lined_alike [] ls ks e h = tt
lined_alike (s ∷ ss) ls ks e h = (h.0, sym (joined_shape s.0 s.1 ks) ∙ ap (joined s.0 s.1) (sym e) ∙ joined_shape s.0 s.1 ls ∙ h.1, lined_alike ss ls ks e h.2)

distinct_alike : (ls ks : List Line) → shape ls ≡ shape ks → distinct ls ≡ true → distinct ks ≡ true
distinct_alike ls ks e d = sym (distinct_shape ks) ∙ ap distinct (sym e) ∙ distinct_shape ls ∙ d

cancel_net : (m : ℕ) (c : ℤ) (ss : List (ℕ × ℕ)) (ls : List Line) → distinct ls ≡ true → Lined ss ls → net m (cancel ss c ls) ≡ net m ls +ℤ brings m c ss
cancel_net m c [] ls d h = omega (arith, ints)
cancel_net m c (s ∷ ss) ls d h =
    let sh = sym (shape_lower s.0 s.1 c ls) in
    omega (
      arith,
      ints,
      cancel_net m c ss (lower s.0 s.1 c ls) (distinct_alike ls (lower s.0 s.1 c ls) sh d) (lined_alike ss ls (lower s.0 s.1 c ls) sh h.2),
      lower_sum m s.0 s.1 c ls h.0,
      count_one s.0 s.1 (only (eqb m s.0) c -ℤ only (eqb m s.1) c) ls d h.1,
    )

-- round a ring nothing is brought to anybody
telescope : (m : ℕ) (c : ℤ) (here : ℕ) (ms : List ℕ) (goal : ℕ) → brings m c (walk here ms goal) ≡ only (eqb m here) c -ℤ only (eqb m goal) c
telescope m c here [] goal = omega (arith, ints)
telescope m c here (k ∷ ms) goal = omega (arith, ints, telescope m c k ms goal)

round_brings : (m : ℕ) (c : ℤ) (ms : List ℕ) → brings m c (steps ms) ≡ pos 0
round_brings m c [] = refl
round_brings m c (k ∷ ms) = omega (arith, ints, telescope m c k ms k)

-- who owes has a line, and with another
only_none : (s : Bool) (v : ℤ) → s ≡ false → only s v ≡ pos 0
only_none true v e = let z : ◌≡◌ {A = ℕ} 0 1 = cc in no z
only_none false v e = refl

owes_none : (x y : ℕ) (ls : List Line) → joined x y ls ≡ false → owes x y ls ≡ pos 0
owes_none x y [] e = refl
owes_none x y (l ∷ ls) e =
    let h = or_parts (joins x y l) (joined x y ls) e in
    let k = or_parts (eqb x l.a && eqb y l.b) (eqb x l.b && eqb y l.a) h.0 in
    omega (arith, ints, only_none (eqb x l.a && eqb y l.b) l.debt k.0, only_none (eqb x l.b && eqb y l.a) l.debt k.1, owes_none x y ls h.1)

owes_self : (x : ℕ) (ls : List Line) → owes x x ls ≡ pos 0
owes_self x [] = refl
owes_self x (l ∷ ls) = omega (arith, ints, ap (λ (t : Bool). only t l.debt) (mathlib.Core.Bool.and_comm (eqb x l.b) (eqb x l.a)), owes_self x ls)

on_here : (s : ℕ × ℕ) (ss : List (ℕ × ℕ)) → on s.0 s.1 (s ∷ ss) ≡ true
on_here s ss = or_left (eqb s.0 s.0 && eqb s.1 s.1) (on s.0 s.1 ss) (and_from (eqb s.0 s.0) (eqb s.1 s.1) (eq-eqb s.0 s.0 refl) (eq-eqb s.1 s.1 refl))

lined : (c : ℤ) (ss : List (ℕ × ℕ)) (ls : List Line) → pos 0 <ℤ c → ((x y : ℕ) → on x y ss ≡ true → c ≤ℤ owes x y ls) → Lined ss ls
lined c [] ls p h = tt
lined c (s ∷ ss) ls p h = (differ, has_line_lem (joined s.0 s.1 ls) refl, lined c ss ls p (λ x y e. h x y (or_right (eqb s.0 x && eqb s.1 y) (on x y ss) e)))
  where
    more : c ≤ℤ owes s.0 s.1 ls
    more = h s.0 s.1 (on_here s ss)

    differ : s.0 ≢ s.1
    differ e = omega (arith, ints, p, more, owes_self s.0 ls, ap (λ (v : ℕ). owes s.0 v ls) e)

    has_line_lem : (b : Bool) → joined s.0 s.1 ls ≡ b → joined s.0 s.1 ls ≡ true
    has_line_lem true e = e
    has_line_lem false e = absurd (omega (arith, ints, p, more, owes_none s.0 s.1 ls e))

pub ring_net : (m : ℕ) (ms : List ℕ) (c : ℤ) (ls : List Line) → distinct ls ≡ true → Ring ls ms c → net m (cancel (steps ms) c ls) ≡ net m ls
ring_net m ms c ls d r = omega (arith, ints, cancel_net m c (steps ms) ls d (lined c (steps ms) ls r.some r.owing), round_brings m c ms)

-- ---- bounds: no debt on the ring grows or turns
pub eqb_sym : (x y : ℕ) → eqb x y ≡ eqb y x
eqb_sym x y = go (eqb x y) refl
  where
    go : (b : Bool) → eqb x y ≡ b → eqb x y ≡ eqb y x
    go true e = e ∙ sym (eq-eqb y x (sym (eqb-true x y e)))
    go false e = e ∙ sym (ne_eqb y x (λ h. eqb-false x y e (sym h)))

on_source : (x y here : ℕ) (ms : List ℕ) (goal : ℕ) → on x y (walk here ms goal) ≡ true → has x (here ∷ ms) ≡ true
on_source x y here [] goal e =
    let h = and_parts (eqb here x) (eqb goal y) (sym (mathlib.Core.Bool.or_comm (eqb here x && eqb goal y) false) ∙ e) in
    or_left (eqb x here) false (eqb_sym x here ∙ h.0)
on_source x y here (k ∷ ms) goal e = go (or_cases (eqb here x && eqb k y) (on x y (walk k ms goal)) e) (on_source x y k ms goal)
  where
    go : ((eqb here x && eqb k y) ≡ true) ⊎ (on x y (walk k ms goal) ≡ true) → (on x y (walk k ms goal) ≡ true → has x (k ∷ ms) ≡ true) → has x (here ∷ (k ∷ ms)) ≡ true
    go (inl h) ih = or_left (eqb x here) (has x (k ∷ ms)) (eqb_sym x here ∙ (and_parts (eqb here x) (eqb k y) h).0)
    go (inr h) ih = or_right (eqb x here) (has x (k ∷ ms)) (ih h)

-- how much a debt of x to y falls in all
abbrev falls : ℕ → ℕ → ℤ → List (ℕ × ℕ) → ℤ
falls x y c ss = sum_z (λ s. only (eqb s.0 x && eqb s.1 y) c) ss

once_falls : (x y : ℕ) (c : ℤ) (here : ℕ) (ms : List ℕ) (goal : ℕ) → once (here ∷ ms) ≡ true → falls x y c (walk here ms goal) ≡ only (on x y (walk here ms goal)) c
once_falls x y c here [] goal o = go (eqb here x && eqb goal y)
  where
    go : (b : Bool) → only b c +ℤ pos 0 ≡ only (b || false) c
    go true = omega (arith, ints)
    go false = refl
once_falls x y c here (k ∷ ms) goal o =
    let h = and_parts (not (has here (k ∷ ms))) (once (k ∷ ms)) o in
    go (eqb here x && eqb k y) refl (on x y (walk k ms goal)) refl (not-true (has here (k ∷ ms)) h.0) (once_falls x y c k ms goal h.1)
  where
    go : (b : Bool) → (eqb here x && eqb k y) ≡ b → (t : Bool) → on x y (walk k ms goal) ≡ t → has here (k ∷ ms) ≡ false → falls x y c (walk k ms goal) ≡ only (on x y (walk k ms goal)) c → only b c +ℤ falls x y c (walk k ms goal) ≡ only (b || on x y (walk k ms goal)) c
    go true e true f n ih =
        let x-is : here ≡ x = eqb-true here x (and_parts (eqb here x) (eqb k y) e).0 in
        let w : has here (k ∷ ms) ≡ true = ap (λ (v : ℕ). has v (k ∷ ms)) x-is ∙ on_source x y k ms goal f in
        let z : ◌≡◌ {A = ℕ} 0 1 = cc in no z
    go true e false f n ih = omega (arith, ints, ih, ap (λ (t : Bool). only t c) f)
    go false e t f n ih = omega (arith, ints, ih)

steps_falls : (x y : ℕ) (c : ℤ) (ms : List ℕ) → once ms ≡ true → falls x y c (steps ms) ≡ only (on x y (steps ms)) c
steps_falls x y c [] o = refl
steps_falls x y c (k ∷ ms) o = once_falls x y c k ms k o

-- one line under all steps
abbrev pub cancel_line : List (ℕ × ℕ) → ℤ → Line → Line
cancel_line [] c l = l
cancel_line (s ∷ ss) c l = cancel_line ss c (lower_line s.0 s.1 c l)

cancel_cons : (ss : List (ℕ × ℕ)) (c : ℤ) (l : Line) (ls : List Line) → cancel ss c (l ∷ ls) ≡ cancel_line ss c l ∷ cancel ss c ls
cancel_cons [] c l ls = refl
cancel_cons (s ∷ ss) c l ls = cancel_cons ss c (lower_line s.0 s.1 c l) (lower s.0 s.1 c ls)

cancel_nil : (ss : List (ℕ × ℕ)) (c : ℤ) → cancel ss c [] ≡ []
cancel_nil [] c = refl
cancel_nil (s ∷ ss) c = cancel_nil ss c

cancel_line_lem : (ss : List (ℕ × ℕ)) (c : ℤ) (l : Line) → cancel_line ss c l ≡ with_debt l ((l.debt -ℤ falls l.b l.a c ss) +ℤ falls l.a l.b c ss)
cancel_line_lem [] c l = ap (with_debt l) (omega (arith, ints))
cancel_line_lem (s ∷ ss) c l = cancel_line_lem ss c (lower_line s.0 s.1 c l) ∙ ap (with_debt l) (omega (arith, ints))

pub line_same : (ss : List (ℕ × ℕ)) (c : ℤ) (l : Line) → cancel_line ss c l ≡ with_debt l (cancel_line ss c l).debt
line_same [] c l = refl
line_same (s ∷ ss) c l = line_same ss c (lower_line s.0 s.1 c l)

-- the one line of a pair has all its debt
abbrev Own : List Line → List Line → Type 0
Own all [] = Unit {0}
Own all (l ∷ ls) = (owes l.b l.a all ≡ l.debt) × (owes l.a l.b all ≡ neg_ℤ l.debt) × Own all ls

flip : (s t : Bool) → (s && t) ≡ false → (t && s) ≡ false
flip s t e = mathlib.Core.Bool.and_comm t s ∙ e

own_cons : (l : Line) (all ks : List Line) → joined l.a l.b ks ≡ false → Own all ks → Own (l ∷ all) ks
own_cons l all [] j o = tt
own_cons l all (k ∷ ks) j o =
    let h = or_parts (joins l.a l.b k) (joined l.a l.b ks) j in
    let g = or_parts (eqb l.a k.a && eqb l.b k.b) (eqb l.a k.b && eqb l.b k.a) h.0 in
    let u : (eqb k.a l.a && eqb k.b l.b) ≡ false = ap₂ (λ (x y : Bool). x && y) (eqb_sym k.a l.a) (eqb_sym k.b l.b) ∙ g.0 in
    let v : (eqb k.b l.a && eqb k.a l.b) ≡ false = ap₂ (λ (x y : Bool). x && y) (eqb_sym k.b l.a) (eqb_sym k.a l.b) ∙ g.1 in (
      omega (arith, ints, o, only_none (eqb k.b l.b && eqb k.a l.a) l.debt (flip (eqb k.a l.a) (eqb k.b l.b) u), only_none (eqb k.b l.a && eqb k.a l.b) l.debt v),
      omega (arith, ints, o, only_none (eqb k.a l.b && eqb k.b l.a) l.debt (flip (eqb k.b l.a) (eqb k.a l.b) v), only_none (eqb k.a l.a && eqb k.b l.b) l.debt u),
      own_cons l all ks h.1 o.2,
    )

-- the two ends of each line differ
abbrev Split : List Line → Type 0
Split [] = Unit {0}
Split (l ∷ ls) = (l.a < l.b) × Split ls

own : (ls : List Line) → distinct ls ≡ true → Split ls → Own ls ls
own [] d s = tt
own (l ∷ ls) d s =
    let h = and_parts (not (joined l.a l.b ls)) (distinct ls) d in
    let n = not-true (joined l.a l.b ls) h.0 in
    let m = joined_swap l.b l.a ls ∙ n in
    let f : eqb l.b l.a ≡ false = ne_eqb l.b l.a (omega arith) in
    let g : eqb l.a l.b ≡ false = ne_eqb l.a l.b (omega arith) in
    let ea : eqb l.a l.a ≡ true = eq-eqb l.a l.a refl in
    let eb : eqb l.b l.b ≡ true = eq-eqb l.b l.b refl in
    let x : line_owes l.b l.a l ≡ l.debt = rw (eb, ea, f) (omega (arith, ints)) in
    let y : line_owes l.a l.b l ≡ neg_ℤ l.debt = rw (g, ea, eb) (omega (arith, ints)) in
    (omega (arith, ints, x, owes_none l.b l.a ls m), omega (arith, ints, y, owes_none l.a l.b ls n), own_cons l ls ls n (own ls h.1 s.1))

-- what the steps of a ring leave of one line
pub line_falls : (ms : List ℕ) (c : ℤ) (l : Line) → once ms ≡ true → cancel_line (steps ms) c l ≡ with_debt l ((l.debt -ℤ only (on l.b l.a (steps ms)) c) +ℤ only (on l.a l.b (steps ms)) c)
line_falls ms c l o =
    cancel_line_lem (steps ms) c l ∙ ap₂ (λ (u v : ℤ). with_debt l ((l.debt -ℤ u) +ℤ v)) (steps_falls l.b l.a c ms o) (steps_falls l.a l.b c ms o)

-- no debt grows or turns, and one on the ring falls
pub record Falls (d e : ℤ) (t : Bool) : Type 0 where
  pub shrinks : Shrinks d e
  pub less : t ≡ true → e ≢ d

line_eases : (l : Line) (all : List Line) (ms : List ℕ) (c : ℤ) → Ring all ms c → owes l.b l.a all ≡ l.debt → owes l.a l.b all ≡ neg_ℤ l.debt
    → Falls l.debt (cancel_line (steps ms) c l).debt (on l.b l.a (steps ms) || on l.a l.b (steps ms))
line_eases l all ms c r x y =
    subst (λ (k : Line). Falls l.debt k.debt (on l.b l.a (steps ms) || on l.a l.b (steps ms))) (sym (line_falls ms c l r.apart))
    (go (on l.b l.a (steps ms)) refl (on l.a l.b (steps ms)) refl)
  where
    go : (p : Bool) → on l.b l.a (steps ms) ≡ p → (q : Bool) → on l.a l.b (steps ms) ≡ q → Falls l.debt ((l.debt -ℤ only p c) +ℤ only q c) (p || q)
    go true e true f = absurd (omega (arith, ints, r.some, r.owing l.b l.a e, r.owing l.a l.b f, x, y))
    go true e false f = record {
      shrinks = inl (omega (arith, ints, r.some, r.owing l.b l.a e, x), omega (arith, ints, r.some, r.owing l.b l.a e, x));
      less = λ t h. omega (arith, ints, r.some, h);
    }
    go false e true f = record {
      shrinks = inr (omega (arith, ints, r.some, r.owing l.a l.b f, y), omega (arith, ints, r.some, r.owing l.a l.b f, y));
      less = λ t h. omega (arith, ints, r.some, h);
    }
    go false e false f = record { shrinks = still (by_lt_z l.debt (pos 0) inl inr); less = λ t h. let z : ◌≡◌ {A = ℕ} 0 1 = cc in no z }
      where
        still : (l.debt <ℤ pos 0) ⊎ (pos 0 ≤ℤ l.debt) → Shrinks l.debt ((l.debt -ℤ pos 0) +ℤ pos 0)
        still (inl h) = inr (omega (arith, ints, h), omega (arith, ints, h))
        still (inr h) = inl (omega (arith, ints, h), omega (arith, ints, h))

-- a debt that shrinks keeps its bounds
bounded_shrinks : (l : Line) (d : ℤ) → bounded l ≡ true → Shrinks l.debt d → bounded (with_debt l d) ≡ true
bounded_shrinks l d b s =
    let f = bounded_facts l b in
    let r = range f s in
    and_from (framed l) (affordable (with_debt l d)) (and_parts (framed l) (affordable l) b).0
    (and_from (le_z (neg_ℤ l.trust_b) d) (le_z d l.trust_a) (sym (omega (arith, ints, r.0))) (sym (omega (arith, ints, r.1))))
  where
    range : Bounds l → Shrinks l.debt d → (neg_ℤ l.trust_b ≤ℤ d) × (d ≤ℤ l.trust_a)
    range f (inl h) = (omega (arith, ints, h, f.no_less_b), omega (arith, ints, h, f.most))
    range f (inr h) = (omega (arith, ints, h, f.least), omega (arith, ints, h, f.no_less_a))

lines_bounded : (ls all : List Line) (ms : List ℕ) (c : ℤ) → Ring all ms c → every bounded ls ≡ true → Own all ls → every bounded (cancel (steps ms) c ls) ≡ true
lines_bounded [] all ms c r b o = ap (every bounded) (cancel_nil (steps ms) c)
lines_bounded (l ∷ ls) all ms c r b o =
    let h = and_parts (bounded l) (every bounded ls) b in
    let k = cancel_line (steps ms) c l in
    let same : k ≡ with_debt l k.debt = line_same (steps ms) c l in
    ap (every bounded) (cancel_cons (steps ms) c l ls)
    ∙ and_from (bounded k) (every bounded (cancel (steps ms) c ls)) (ap bounded same ∙ bounded_shrinks l k.debt h.0 (line_eases l all ms c r o.0 o.1).shrinks) (lines_bounded ls all ms c r h.1 o.2)

split : (ls : List Line) → every bounded ls ≡ true → Split ls
split [] b = tt
split (l ∷ ls) b =
    let h = and_parts (bounded l) (every bounded ls) b in
    ((bounded_facts l h.0).order, split ls h.1)

-- ---- all rings
pub cancel_length : (ss : List (ℕ × ℕ)) (c : ℤ) (ls : List Line) → length (cancel ss c ls) ≡ length ls
cancel_length ss c [] = ap length (cancel_nil ss c)
cancel_length ss c (l ∷ ls) = ap length (cancel_cons ss c l ls) ∙ ap suc (cancel_length ss c ls)

pub cancel_at : (ss : List (ℕ × ℕ)) (c : ℤ) (ls : List Line) (i : ℕ) → i < length ls → get_or (cancel ss c ls) i no_line ≡ cancel_line ss c (get_or ls i no_line)
cancel_at ss c [] i h = absurd (omega arith)
cancel_at ss c (l ∷ ls) zero h = ap (λ (ks : List Line). get_or ks 0 no_line) (cancel_cons ss c l ls)
cancel_at ss c (l ∷ ls) (suc i) h = ap (λ (ks : List Line). get_or ks (suc i) no_line) (cancel_cons ss c l ls) ∙ cancel_at ss c ls i (omega arith)

own_at : (all ls : List Line) (i : ℕ) → Own all ls → i < length ls → (owes (get_or ls i no_line).b (get_or ls i no_line).a all ≡ (get_or ls i no_line).debt) × (owes (get_or ls i no_line).a (get_or ls i no_line).b all ≡ neg_ℤ (get_or ls i no_line).debt)
own_at all [] i o h = absurd (omega arith)
own_at all (l ∷ ls) zero o h = (o.0, o.1)
own_at all (l ∷ ls) (suc i) o h = own_at all ls i o.2 (omega arith)

-- the one line of a pair has all that is owed between its ends
pub owed_at : (ls : List Line) (i : ℕ) → distinct ls ≡ true → every bounded ls ≡ true → i < length ls → (owes (get_or ls i no_line).b (get_or ls i no_line).a ls ≡ (get_or ls i no_line).debt) × (owes (get_or ls i no_line).a (get_or ls i no_line).b ls ≡ neg_ℤ (get_or ls i no_line).debt)
owed_at ls i d b h = own_at ls ls i (own ls d (split ls b)) h

-- what cancelling a ring does to line i
pub ring_falls : (ls : List Line) (ms : List ℕ) (c : ℤ) → Ring ls ms c → distinct ls ≡ true → every bounded ls ≡ true → (i : ℕ) → i < length ls
    → Falls (get_or ls i no_line).debt (get_or (cancel (steps ms) c ls) i no_line).debt (on (get_or ls i no_line).b (get_or ls i no_line).a (steps ms) || on (get_or ls i no_line).a (get_or ls i no_line).b (steps ms))
ring_falls ls ms c r d b i h =
    let o = owed_at ls i d b h in
    let l = get_or ls i no_line in
    subst (λ (k : Line). Falls l.debt k.debt (on l.b l.a (steps ms) || on l.a l.b (steps ms))) (sym (cancel_at (steps ms) c ls i h)) (line_eases l ls ms c r o.0 o.1)

ring_eases : (ls : List Line) (ms : List ℕ) (c : ℤ) → Ring ls ms c → distinct ls ≡ true → every bounded ls ≡ true → Eases ls (cancel (steps ms) c ls)
ring_eases ls ms c r d b = record {
  long = cancel_length (steps ms) c ls;
  same = λ i h. let e = cancel_at (steps ms) c ls i h in let f = line_same (steps ms) c (get_or ls i no_line) in e ∙ f ∙ ap (λ (k : Line). with_debt (get_or ls i no_line) k.debt) (sym e);
  less = λ i h. (ring_falls ls ms c r d b i h).shrinks;
}

shrinks_same : (d e : ℤ) → e ≡ d → Shrinks d e
shrinks_same d e h = go (by_lt_z d (pos 0) inl inr)
  where
    go : (d <ℤ pos 0) ⊎ (pos 0 ≤ℤ d) → Shrinks d e
    go (inl k) = inr (omega (arith, ints, h, k), omega (arith, ints, h, k))
    go (inr k) = inl (omega (arith, ints, h, k), omega (arith, ints, h, k))

shrinks_then : (d e f : ℤ) → Shrinks d e → Shrinks e f → Shrinks d f
shrinks_then d e f (inl h) (inl k) = inl (omega (arith, ints, h, k), omega (arith, ints, h, k))
shrinks_then d e f (inl h) (inr k) = inl (omega (arith, ints, h, k), omega (arith, ints, h, k))
shrinks_then d e f (inr h) (inl k) = inr (omega (arith, ints, h, k), omega (arith, ints, h, k))
shrinks_then d e f (inr h) (inr k) = inr (omega (arith, ints, h, k), omega (arith, ints, h, k))

pub eases_same : (ls ks : List Line) → ks ≡ ls → Eases ls ks
eases_same ls ks e = subst (λ (js : List Line). Eases ls js) (sym e) (record { long = refl; same = λ i h. refl; less = λ i h. shrinks_same (get_or ls i no_line).debt (get_or ls i no_line).debt refl })

pub eases_then : (ls ks js : List Line) → Eases ls ks → Eases ks js → Eases ls js
eases_then ls ks js p q = record {
  long = q.long ∙ p.long;
  same = λ i h. q.same i (omega (arith, p.long)) ∙ ap (λ (k : Line). with_debt k (get_or js i no_line).debt) (p.same i h);
  less = λ i h. shrinks_then (get_or ls i no_line).debt (get_or ks i no_line).debt (get_or js i no_line).debt (p.less i h) (q.less i (omega (arith, p.long)));
}

-- ends and trusts, net positions, bounds and pairs stay, and no debt grows or turns
pub record Keeps (ls ls' : List Line) : Type 0 where
  pub shapes : shape ls' ≡ shape ls
  pub eases : Eases ls ls'
  pub nets : (m : ℕ) → net m ls' ≡ net m ls
  pub bounds : every bounded ls' ≡ true
  pub pairs : distinct ls' ≡ true

pub cancels_keep : (rs : List (List ℕ × ℤ)) (ls ls' : List Line) → distinct ls ≡ true → every bounded ls ≡ true → Cancels rs ls ls' → Keeps ls ls'
cancels_keep [] ls ls' d b e = record { shapes = ap shape e; eases = eases_same ls ls' e; nets = λ m. ap (net m) e; bounds = ap (every bounded) e ∙ b; pairs = ap distinct e ∙ d }
cancels_keep (r ∷ rs) ls ls' d b e =
    let mid = cancel (steps r.0) r.1 ls in
    let sh = shape_cancel (steps r.0) r.1 ls in
    let k = cancels_keep rs mid ls' (distinct_alike ls mid (sym sh) d) (lines_bounded ls ls r.0 r.1 e.0 b (own ls d (split ls b))) e.1 in
    record { shapes = k.shapes ∙ sh; eases = eases_then ls mid ls' (ring_eases ls r.0 r.1 e.0 d b) k.eases; nets = λ m. k.nets m ∙ ring_net m r.0 r.1 ls d e.0; bounds = k.bounds; pairs = k.pairs }

pub tidied_keeps : (ls ls' : List Line) → distinct ls ≡ true → every bounded ls ≡ true → Tidied ls ls' → Keeps ls ls'
tidied_keeps ls ls' d b t = cancels_keep t.rings ls ls' d b t.cancels
