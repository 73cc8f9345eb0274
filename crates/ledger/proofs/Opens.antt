-- The line between two members, and what a new line keeps.
use Rattle.std.proofs.Common.{◌≡◌, ℕ, ◌<◌, Bool, true, false, cond, not, ◌&&◌, ◌||◌, eqb, ltb, leb, ◌≢◌, List, [], ◌∷◌, ◌++◌, length, ℤ, pos, neg_ℤ, ◌≤ℤ◌, is_some, Some, Option, ⊎_elim, refl, ap, ◌∙◌, subst, ap₂, arith}
use mathlib.Core.Bool.{and_comm}
use lib.Signed.{le_z}
use Rattle.std.specs.List.{list_any}
use Rattle.std.proofs.lemmas.Int.{ints}
use Rattle.std.proofs.lemmas.Bool.{cases_Bool, and_parts, and_from, or_parts, or_from, not-true, not-false, ltb-true, ltb-false, lt-ltb, eqb-false, leb-false}
use Rattle.credit.specs.declared.line.Line.{Line}
use Rattle.credit.specs.declared.refusal.Refusal.TheVariants.{NoSuchMember, SameMember, OutOfRange, ReservationStands, PairHasLine, TooManyLines, SavepointOpen}
use Rattle.credit.specs.Refusals.{passes}
use Rattle.credit.specs.Sums.{every}
use Rattle.credit.specs.Net.{in_trust, bounded}
use Rattle.credit.specs.Pairs.{joins, joined, distinct}
use Rattle.credit.proofs.Bounds.{le_z_test, le_z_order, bounded_facts}
use Rattle.routing.specs.Meaning.{not_members}
use Rattle.rings.proofs.Rings.{eqb_sym}
use Rattle.ledger.specs.Between.{line_between}
use Rattle.ledger.specs.States.{State}
use Rattle.ledger.specs.Checks.{none_open, open_checks}
use Rattle.ledger.specs.Calls.{new_line}
use Rattle.credit.proofs.Tables.{check_passes}
use Rattle.ledger.proofs.Stacks.{every_push}

-- ---- the line between two members
-- whether two members have a line, as a test of each line
pub joined_any : (x y : ℕ) (ls : List Line) → list_any (joins x y) ls ≡ joined x y ls
joined_any x y [] = refl
joined_any x y (l ∷ ls) = ap (λ t. joins x y l || t) (joined_any x y ls)

-- there is a line between two members where they are joined
pub joined_is : (x y : ℕ) (ls : List Line) → is_some (line_between x y ls) ≡ joined x y ls
joined_is x y [] = refl
joined_is x y (l ∷ ls) = ⊎_elim (λ e. rw e refl) (λ e. rw e (joined_is x y ls)) (cases_Bool (joins x y l))

-- it is one of the lines
between_bounded : (l m : Line) (o : Option Line) (b : Bool) → bounded l ≡ true → (o ≡ Some m → bounded m ≡ true) → cond b (Some l) o ≡ Some m → bounded m ≡ true
between_bounded l m o true k ih e = let f : l ≡ m = cc in subst (λ v. bounded v ≡ true) f k
between_bounded l m o false k ih e = ih e

line_bounded : (x y : ℕ) (ls : List Line) (m : Line) → every bounded ls ≡ true → line_between x y ls ≡ Some m → bounded m ≡ true
line_bounded x y [] m b e = cc
line_bounded x y (l ∷ ls) m b e =
    let p = and_parts (bounded l) (every bounded ls) b in
    between_bounded l m (line_between x y ls) (joins x y l) p.0 (line_bounded x y ls m p.1) e

-- so its debt is at most the largest trust, either way
pub line_debt : (x y : ℕ) (ls : List Line) (m : Line) → every bounded ls ≡ true → line_between x y ls ≡ Some m → (neg_ℤ (pos 1000000) ≤ℤ m.debt) × (m.debt ≤ℤ pos 1000000)
line_debt x y ls m b e =
    let f = bounded_facts m (line_bounded x y ls m b e) in
    (omega (arith, ints, f.least, f.no_more_b), omega (arith, ints, f.most, f.no_more_a))

-- ---- what the checks of an opening leave
pub record Openable (s : State) (x y : ℕ) (t u : ℤ) : Type 0 where
  pub vacant : is_some s.standing ≡ false
  pub none : none_open s.groups ≡ true
  pub first : x < 64
  pub second : y < 64
  pub apart : x ≢ y
  pub trust : in_trust t ≡ true
  pub back : in_trust u ≡ true
  pub unjoined : joined x y s.lines ≡ false
  pub few : length s.lines < 256

pub openable : (s : State) (x y : ℕ) (t u : ℤ) → open_checks s x y t u ≡ passes → Openable s x y t u
openable s x y t u h =
    let c8 = check_passes (is_some s.standing) ReservationStands _ h in
    let c12 = check_passes (not (none_open s.groups)) SavepointOpen _ c8.1 in
    let c5 = check_passes (not_members x y) NoSuchMember _ c12.1 in
    let c6 = check_passes (eqb x y) SameMember _ c5.1 in
    let c7 = check_passes (not (in_trust t && in_trust u)) OutOfRange _ c6.1 in
    let c10 = check_passes (joined x y s.lines) PairHasLine _ c7.1 in
    let c11 = check_passes (leb 256 (length s.lines)) TooManyLines _ c10.1 in
    let m = and_parts (ltb x 64) (ltb y 64) (not-false (ltb x 64 && ltb y 64) c5.0) in
    let r = and_parts (in_trust t) (in_trust u) (not-false (in_trust t && in_trust u) c7.0) in
    record {
      vacant = c8.0;
      none = not-false (none_open s.groups) c12.0;
      first = ltb-true x 64 m.0;
      second = ltb-true y 64 m.1;
      apart = eqb-false x y c6.0;
      trust = r.0;
      back = r.1;
      unjoined = c10.0;
      few = leb-false 256 (length s.lines) c11.0;
    }

-- ---- what a new line keeps
new_bounded : (x y : ℕ) (t u : ℤ) → x < 64 → y < 64 → x ≢ y → in_trust t ≡ true → in_trust u ≡ true → bounded (new_line x y t u) ≡ true
new_bounded x y t u hx hy ne ht hu = go (ltb x y) refl
  where
    line : (a b : ℕ) (v w : ℤ) → a < b → b < 64 → in_trust v ≡ true → in_trust w ≡ true → bounded (record { a = a; b = b; trust_a = v; trust_b = w; debt = pos 0 }) ≡ true
    line a b v w ab b64 hv hw =
        let m = le_z_order (pos 0) w (and_parts (le_z (pos 0) w) (le_z w (pos 1000000)) hw).0 in
        and_from _ _
        (and_from (ltb a b) _ (lt-ltb a b ab) (and_from (ltb b 64) _ (lt-ltb b 64 b64) (and_from (in_trust v) (in_trust w) hv hw)))
        (and_from (le_z (neg_ℤ w) (pos 0)) (le_z (pos 0) v) (le_z_test (neg_ℤ w) (pos 0) (omega (arith, ints, m))) (and_parts (le_z (pos 0) v) (le_z v (pos 1000000)) hv).0)

    go : (b : Bool) → ltb x y ≡ b → bounded (cond b (record { a = x; b = y; trust_a = t; trust_b = u; debt = pos 0 }) (record { a = y; b = x; trust_a = u; trust_b = t; debt = pos 0 })) ≡ true
    go true e = line x y t u (ltb-true x y e) hy ht hu
    go false e = line y x u t (omega (arith, ltb-false x y e, ne)) hx hu ht

flip : (s t : Bool) → (s && t) ≡ false → (t && s) ≡ false
flip s t e = and_comm t s ∙ e

joined_push : (x y : ℕ) (ls : List Line) (n : Line) → joined x y ls ≡ false → joins x y n ≡ false → joined x y (ls ++ n ∷ []) ≡ false
joined_push x y [] n e j = or_from (joins x y n) false j refl
joined_push x y (l ∷ ls) n e j =
    let h = or_parts (joins x y l) (joined x y ls) e in
    or_from (joins x y l) (joined x y (ls ++ n ∷ [])) h.0 (joined_push x y ls n h.1 j)

joins_new : (x y : ℕ) (t u : ℤ) (l : Line) → joins x y l ≡ false → joins l.a l.b (new_line x y t u) ≡ false
joins_new x y t u l e = go (ltb x y)
  where
    parts : ((eqb l.a x && eqb l.b y) ≡ false) × ((eqb l.b x && eqb l.a y) ≡ false)
    parts =
        let h = or_parts (eqb x l.a && eqb y l.b) (eqb x l.b && eqb y l.a) e in
        (ap₂ (λ (v w : Bool). v && w) (eqb_sym l.a x) (eqb_sym l.b y) ∙ h.0, ap₂ (λ (v w : Bool). v && w) (eqb_sym l.b x) (eqb_sym l.a y) ∙ h.1)

    go : (b : Bool) → joins l.a l.b (cond b (record { a = x; b = y; trust_a = t; trust_b = u; debt = pos 0 }) (record { a = y; b = x; trust_a = u; trust_b = t; debt = pos 0 })) ≡ false
    go true = or_from (eqb l.a x && eqb l.b y) (eqb l.a y && eqb l.b x) parts.0 (flip (eqb l.b x) (eqb l.a y) parts.1)
    go false = or_from (eqb l.a y && eqb l.b x) (eqb l.a x && eqb l.b y) (flip (eqb l.b x) (eqb l.a y) parts.1) parts.0

distinct_push : (ls : List Line) (x y : ℕ) (t u : ℤ) → distinct ls ≡ true → joined x y ls ≡ false → distinct (ls ++ new_line x y t u ∷ []) ≡ true
distinct_push [] x y t u d j = refl
distinct_push (l ∷ ls) x y t u d j =
    let h = and_parts (not (joined l.a l.b ls)) (distinct ls) d in
    let k = or_parts (joins x y l) (joined x y ls) j in
    and_from (not (joined l.a l.b (ls ++ new_line x y t u ∷ []))) (distinct (ls ++ new_line x y t u ∷ []))
    (ap not (joined_push l.a l.b ls (new_line x y t u) (not-true (joined l.a l.b ls) h.0) (joins_new x y t u l k.0)))
    (distinct_push ls x y t u h.1 k.1)

pub opened_bounds : (s : State) (x y : ℕ) (t u : ℤ) → Openable s x y t u → every bounded s.lines ≡ true → every bounded (s.lines ++ new_line x y t u ∷ []) ≡ true
opened_bounds s x y t u o b = every_push bounded s.lines (new_line x y t u) b (new_bounded x y t u o.first o.second o.apart o.trust o.back)

pub opened_pairs : (s : State) (x y : ℕ) (t u : ℤ) → Openable s x y t u → distinct s.lines ≡ true → distinct (s.lines ++ new_line x y t u ∷ []) ≡ true
opened_pairs s x y t u o d = distinct_push s.lines x y t u d o.unjoined
