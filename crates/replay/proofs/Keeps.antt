-- What one call keeps and what it does to nets, groups and trusts, whatever router serves it.
use Rattle.std.proofs.Common.{◌≡◌, ℕ, suc, ◌<◌, ◌≤◌, Bool, true, false, cond, not, ◌&&◌, eqb, ltb, ◌≢◌, ◌⊎◌, List, [], ◌∷◌, ◌++◌, length, ℤ, pos, ◌+ℤ◌, ◌-ℤ◌, is_some, Some, None, Ok, Err, Option, sym, refl, ap, ◌∙◌, subst, subst₂, inl, inr, arith}
use mathlib.Core.Bool.{and_comm}
use Rattle.std.proofs.lemmas.Int.{ints}
use Rattle.std.proofs.lemmas.Bool.{and_parts, eqb-true, or_parts}
use Rattle.credit.specs.declared.line.Line.{Line}
use Rattle.credit.specs.declared.payment.Payment.{Payment}
use Rattle.credit.specs.declared.refusal.Refusal.{Refusal}
use Rattle.credit.specs.declared.refusal.Refusal.TheVariants.{ReservationStands, NoSavepoint}
use Rattle.credit.specs.Refusals.{Verdict, passes}
use Rattle.credit.specs.Sums.{only, every}
use Rattle.credit.specs.Net.{share, net, bounded}
use Rattle.credit.specs.Rooms.{line_trust, trust}
use Rattle.credit.specs.Pairs.{joins, joined, distinct}
use Rattle.credit.specs.Plans.{booked}
use Rattle.credit.proofs.Sums.{sum_append}
use Rattle.credit.proofs.Rooms.{ends_bounded}
use Rattle.credit.proofs.Booked.{bounded_booked}
use Rattle.routing.specs.Meaning.{Routes}
use Rattle.rings.proofs.Rings.{shape, distinct_shape, tidied_keeps}
use Rattle.calls.specs.declared.call.Call.{Call}
use Rattle.calls.specs.declared.call.Call.TheVariants.{Open, Pay, Reserve, Book, Release, Begin, End, Abandon, Tidy}
use Rattle.calls.specs.declared.call.Answer.{Answer}
use Rattle.calls.specs.declared.call.Answer.TheVariants.{Done, Kept, Undone, Refused}
use Rattle.ledger.specs.Debts.{debts, with_debts}
use Rattle.ledger.specs.Sound.{proper, strained}
use Rattle.ledger.specs.States.{OpenGroup, State, with_lines, with_groups, with_standing}
use Rattle.ledger.specs.Checks.{inmost_spoiled, none_open, matches, pay_checks, book_checks, open_checks, begin_checks, close_checks}
use Rattle.ledger.specs.Calls.{blank, new_line, opened, begun, closed, spoils, spoil_inmost, after_refusal, Paid, Pays, Held, Reserves, Books, Plain, Does}
use Rattle.ledger.proofs.Shapes.{shape_booked, shape_with_debts, with_debts_shape, with_debts_debts, trust_alike, length_shape, room_alike}
use Rattle.credit.proofs.Tables.{check_passes}
use Rattle.ledger.proofs.Opens.{openable, opened_bounds, opened_pairs}
use Rattle.ledger.proofs.Steps.{pay_checked, routed_tells, routed_net, unstrained_alike, unstrained_routed, proper_checked}
use Rattle.replay.specs.Runs.{undone, kept, reply}
use Rattle.replay.specs.History.{Event, pays, begins, keeps, undoes, other, closing, event, trust_by}

-- ---- what holds of every state
abbrev pub saves : List OpenGroup → List (List ℤ)
saves [] = []
saves (g ∷ gs) = g.saved ∷ saves gs

abbrev pub SavedOk : List Line → List (List ℤ) → Type 0
SavedOk sh [] = Unit {0}
SavedOk sh (ds ∷ dss) = (every bounded (with_debts sh ds) ≡ true) × SavedOk sh dss

-- a reservation that stands is proper and has its room in every group
pub record Fitting (st : Option Payment) (ls : List Line) : Type 0 where
  pub ok : proper st ≡ true
  pub room_left : (g : ℕ) → strained st g ls ≡ false

pub record Good (s : State) : Type 0 where
  pub bounds : every bounded s.lines ≡ true
  pub few : length (shape s.lines) ≤ 256
  pub pairs : distinct (shape s.lines) ≡ true
  pub saved : SavedOk (shape s.lines) (saves s.groups)
  pub fitting : Fitting s.standing s.lines

pub few_lines : (s : State) → Good s → length s.lines ≤ 256
few_lines s g = omega (arith, g.few, length_shape s.lines)

fit_none : (st : Option Payment) (ls : List Line) → is_some st ≡ false → Fitting st ls
fit_none None ls e = record { ok = refl; room_left = λ g. refl }
fit_none (Some c) ls e = cc

-- ---- what an event does
abbrev pub SameNets : State → State → Type 0
SameNets s s' = (m : ℕ) → m < 64 → net m s'.lines ≡ net m s.lines

abbrev pub Follows : Event → State → State → Type 0
Follows (pays pay) s s' = ((m : ℕ) → m < 64 → net m s'.lines ≡ (net m s.lines -ℤ only (eqb m pay.payer) pay.amount) +ℤ only (eqb m pay.payee) pay.amount) × (saves s'.groups ≡ saves s.groups) × (shape s'.lines ≡ shape s.lines)
Follows begins s s' = (s'.lines ≡ s.lines) × (saves s'.groups ≡ debts s.lines ∷ saves s.groups)
Follows keeps s s' = (s'.lines ≡ s.lines) × (ds : List ℤ) × (saves s.groups ≡ ds ∷ saves s'.groups)
Follows undoes s s' = (ds : List ℤ) × (s'.lines ≡ with_debts s.lines ds) × (saves s.groups ≡ ds ∷ saves s'.groups)
Follows other s s' = SameNets s s' × (saves s'.groups ≡ saves s.groups) × ((shape s'.lines ≡ shape s.lines) ⊎ (saves s.groups ≡ []))

pub record KeptBy (v : Event) (f : ℕ → ℕ → ℤ → ℤ) (s s' : State) : Type 0 where
  pub good : Good s'
  pub follows : Follows v s s'
  pub trusts : (i j : ℕ) → trust i j s'.lines ≡ f i j (trust i j s.lines)

abbrev same : ℕ → ℕ → ℤ → ℤ
same i j v = v

-- nothing that is counted changes
stay : (s : State) → Good s → KeptBy other same s s
stay s g = record { good = g; follows = ((λ m h. refl), refl, inl refl); trusts = λ i j. refl }

stay_held : (s : State) (st : Option Payment) → Good s → Fitting st s.lines → KeptBy other same s (with_standing s st)
stay_held s st g f = record { good = record { bounds = g.bounds; few = g.few; pairs = g.pairs; saved = g.saved; fitting = f }; follows = ((λ m h. refl), refl, inl refl); trusts = λ i j. refl }

saves_spoil : (gs : List OpenGroup) → saves (spoil_inmost gs) ≡ saves gs
saves_spoil [] = refl
saves_spoil (g ∷ gs) = refl

stay_spoiled : (e : Refusal) (s : State) → Good s → KeptBy other same s (after_refusal e s)
stay_spoiled e s g = go (spoils e)
  where
    go : (b : Bool) → KeptBy other same s (cond b (with_groups s (spoil_inmost s.groups)) s)
    go true = record {
      good = record { bounds = g.bounds; few = g.few; pairs = g.pairs; saved = subst (λ (v : List (List ℤ)). SavedOk (shape s.lines) v) (sym (saves_spoil s.groups)) g.saved; fitting = g.fitting };
      follows = ((λ m h. refl), saves_spoil s.groups, inl refl);
      trusts = λ i j. refl;
    }
    go false = stay s g

-- a routed payment
move : (s : State) (pay : Payment) (plan : List ℤ) (st : Option Payment) → Good s → Fitting st (booked s.lines plan) → Routes s.lines pay blank passes plan → KeptBy (pays pay) same s (with_standing (with_lines s (booked s.lines plan)) st)
move s pay plan st g ft d =
    let t = routed_tells s.lines pay blank plan d in
    let sh = shape_booked s.lines plan in
    record {
      good = record {
        bounds = bounded_booked s.lines plan g.bounds t.1.fit;
        few = subst (λ (v : List Line). length v ≤ 256) (sym sh) g.few;
        pairs = subst (λ (v : List Line). distinct v ≡ true) (sym sh) g.pairs;
        saved = subst (λ (v : List Line). SavedOk v (saves s.groups)) (sym sh) g.saved;
        fitting = ft;
      };
      follows = ((λ m h. routed_net s.lines pay plan d m), refl, sh);
      trusts = λ i j. trust_alike (booked s.lines plan) s.lines sh i j;
    }

-- a call that is refused or does one thing
plain : (Q : Answer → State → Type 0) (v : Verdict) (s : State) (a : Answer) (t : State) (r : Answer) (s' : State) → ((e : Refusal) → Q (Refused e) s) → (v ≡ passes → Q a t) → Plain v s a t r s' → Q r s'
plain Q (Ok u) s a t r s' f k d = subst₂ Q (sym d.0) (sym d.1) (k refl)
plain Q (Err e) s a t r s' f k d = subst₂ Q (sym d.0) (sym d.1) (f e)

-- ---- call by call
abbrev Step : Call → State → Answer → State → Type 0
Step c s r s' = KeptBy (event c (reply r)) (trust_by c (reply r)) s s'

step_pay : (s : State) (k : ℕ) (pay : Payment) (r : Answer) (s' : State) → Good s → Does s (Pay k pay) r s' → Step (Pay k pay) s r s'
step_pay s k pay r s' g d = go (pay_checks s k pay) refl d
  where
    by : (v : Verdict) (plan : List ℤ) → pay_checks s k pay ≡ passes → Routes s.lines pay blank v plan → Paid v plan s r s' → Step (Pay k pay) s r s'
    by (Ok u) plan h d t = subst₂ (λ (r : Answer) (v : State). Step (Pay k pay) s r v) (sym t.0) (sym t.1) (move s pay plan s.standing g (fit_none s.standing _ (pay_checked s k pay h).0) d)
    by (Err e) plan h d t = subst₂ (λ (r : Answer) (v : State). Step (Pay k pay) s r v) (sym t.0) (sym t.1) (stay_spoiled e s g)

    go : (v : Verdict) → pay_checks s k pay ≡ v → Pays v s pay r s' → Step (Pay k pay) s r s'
    go (Ok u) h d = by d.0 d.1 h d.2 d.3
    go (Err e) h d = subst₂ (λ (r : Answer) (v : State). Step (Pay k pay) s r v) (sym d.0) (sym d.1) (stay_spoiled e s g)

step_reserve : (s : State) (k : ℕ) (pay : Payment) (r : Answer) (s' : State) → Good s → Does s (Reserve k pay) r s' → Step (Reserve k pay) s r s'
step_reserve s k pay r s' g d = go (pay_checks s k pay) refl d
  where
    by : (v : Verdict) (plan : List ℤ) → pay_checks s k pay ≡ passes → Routes s.lines pay blank v plan → Held v pay s r s' → Step (Reserve k pay) s r s'
    by (Ok u) plan h x t = subst₂ (λ (r : Answer) (v : State). Step (Reserve k pay) s r v) (sym t.0) (sym t.1) (stay_held s (Some pay) g (record { ok = proper_checked pay (pay_checked s k pay h).1; room_left = unstrained_routed s.lines pay plan g.bounds x }))
    by (Err e) plan h x t = subst₂ (λ (r : Answer) (v : State). Step (Reserve k pay) s r v) (sym t.0) (sym t.1) (stay s g)

    go : (v : Verdict) → pay_checks s k pay ≡ v → Reserves v s pay r s' → Step (Reserve k pay) s r s'
    go (Ok u) h d = by d.0 d.1 h d.2 d.3
    go (Err e) h d = subst₂ (λ (r : Answer) (v : State). Step (Reserve k pay) s r v) (sym d.0) (sym d.1) (stay s g)

step_book : (s : State) (k : ℕ) (pay : Payment) (r : Answer) (s' : State) → Good s → Does s (Book k pay) r s' → Step (Book k pay) s r s'
step_book s k pay r s' g d = go (book_checks s k pay) d
  where
    go : (v : Verdict) → Books v s pay r s' → Step (Book k pay) s r s'
    go (Ok u) d = subst₂ (λ (r : Answer) (v : State). Step (Book k pay) s r v) (sym d.2) (sym d.3) (move s pay d.0 None g (fit_none None _ refl) d.1)
    go (Err e) d = subst₂ (λ (r : Answer) (v : State). Step (Book k pay) s r v) (sym d.0) (sym d.1) (stay s g)

step_release : (s : State) (pay : Payment) (r : Answer) (s' : State) → Good s → Does s (Release pay) r s' → Step (Release pay) s r s'
step_release s pay r s' g d = subst (λ (v : State). Step (Release pay) s r v) (sym d.1) (go (matches s.standing pay))
  where
    go : (b : Bool) → KeptBy other same s (cond b (with_standing s None) s)
    go true = stay_held s None g (fit_none None _ refl)
    go false = stay s g

step_begin : (s : State) (r : Answer) (s' : State) → Good s → Does s Begin r s' → Step Begin s r s'
step_begin s r s' g d =
    plain (λ r v. Step Begin s r v) (begin_checks s) s Done (begun s) r s' (λ e. stay s g)
    (λ h. record {
      good = record { bounds = g.bounds; few = g.few; pairs = g.pairs; saved = (ap (every bounded) (with_debts_shape s.lines (debts s.lines) ∙ with_debts_debts s.lines) ∙ g.bounds, g.saved); fitting = fit_none s.standing s.lines (check_passes (is_some s.standing) ReservationStands _ h).0 };
      follows = (refl, refl);
      trusts = λ i j. refl;
    }) d

-- the inmost group closed
none_of : (gs : List OpenGroup) → none_open gs ≡ true → saves gs ≡ []
none_of [] h = refl
none_of (g ∷ gs) h = cc

close : (s : State) (undo : Bool) → Good s → is_some s.standing ≡ false → none_open s.groups ≡ false → KeptBy (closing (cond undo undone kept)) same s (closed s s.groups (not undo))
close s undo g u h = go s.groups refl h undo
  where
    go : (gs : List OpenGroup) → s.groups ≡ gs → none_open gs ≡ false → (b : Bool) → KeptBy (closing (cond b undone kept)) same s (closed s gs (not b))
    go [] e h b = cc
    go (x ∷ gs) e h true =
        let sv : SavedOk (shape s.lines) (x.saved ∷ saves gs) = subst (λ (v : List OpenGroup). SavedOk (shape s.lines) (saves v)) e g.saved in
        let sh = shape_with_debts s.lines x.saved in
        record {
          good = record {
            bounds = ap (every bounded) (sym (with_debts_shape s.lines x.saved)) ∙ sv.0;
            few = subst (λ (v : List Line). length v ≤ 256) (sym sh) g.few;
            pairs = subst (λ (v : List Line). distinct v ≡ true) (sym sh) g.pairs;
            saved = subst (λ (v : List Line). SavedOk v (saves gs)) (sym sh) sv.1;
            fitting = fit_none s.standing _ u;
          };
          follows = (x.saved, refl, ap saves e);
          trusts = λ i j. trust_alike (with_debts s.lines x.saved) s.lines sh i j;
        }
    go (x ∷ gs) e h false =
        let sv : SavedOk (shape s.lines) (x.saved ∷ saves gs) = subst (λ (v : List OpenGroup). SavedOk (shape s.lines) (saves v)) e g.saved in
        record {
          good = record { bounds = g.bounds; few = g.few; pairs = g.pairs; saved = sv.1; fitting = g.fitting };
          follows = (refl, x.saved, ap saves e);
          trusts = λ i j. refl;
        }

step_end : (s : State) (r : Answer) (s' : State) → Good s → Does s End r s' → Step End s r s'
step_end s r s' g d =
    plain (λ r v. Step End s r v) (close_checks s) s _ _ r s' (λ e. stay s g)
    (λ h. let a = check_passes (is_some s.standing) ReservationStands _ h in let b = check_passes (none_open s.groups) NoSavepoint _ a.1 in
    as_closed (inmost_spoiled s.groups) (close s (inmost_spoiled s.groups) g a.0 b.0)) d
  where
    as_closed : (b : Bool) → KeptBy (closing (cond b undone kept)) same s (closed s s.groups (not b)) → Step End s (cond b Undone Kept) (closed s s.groups (not b))
    as_closed true k = k
    as_closed false k = k

step_abandon : (s : State) (r : Answer) (s' : State) → Good s → Does s Abandon r s' → Step Abandon s r s'
step_abandon s r s' g d =
    plain (λ r v. Step Abandon s r v) (close_checks s) s _ _ r s' (λ e. stay s g)
    (λ h. let a = check_passes (is_some s.standing) ReservationStands _ h in let b = check_passes (none_open s.groups) NoSavepoint _ a.1 in
    close s true g a.0 b.0) d

step_tidy : (s : State) (r : Answer) (s' : State) → Good s → Does s Tidy r s' → Step Tidy s r s'
step_tidy s r s' g d =
    let t = tidied_keeps s.lines d.1 (sym (distinct_shape s.lines) ∙ g.pairs) g.bounds d.2 in
    let sh = t.shapes in
    subst (λ (v : State). Step Tidy s r v) (sym d.3) (record {
      good = record {
        bounds = t.bounds;
        few = subst (λ (v : List Line). length v ≤ 256) (sym sh) g.few;
        pairs = subst (λ (v : List Line). distinct v ≡ true) (sym sh) g.pairs;
        saved = subst (λ (v : List Line). SavedOk v (saves s.groups)) (sym sh) g.saved;
        fitting = record { ok = g.fitting.ok; room_left = λ x. unstrained_alike s.standing x s.lines d.1 (room_alike x s.lines d.1 (ends_bounded s.lines g.bounds) (ends_bounded d.1 t.bounds) (sym sh) (λ m h. sym (t.nets m))) (g.fitting.room_left x) };
      };
      follows = ((λ m h. t.nets m), refl, inl sh);
      trusts = λ i j. trust_alike d.1 s.lines sh i j;
    })

-- ---- open
length_push : (ls : List Line) (l : Line) → length (shape (ls ++ (l ∷ []))) ≡ suc (length (shape ls))
length_push [] l = refl
length_push (x ∷ ls) l = ap suc (length_push ls l)

only_none : (s t : Bool) (v : ℤ) → (s && t) ≡ false → only s (only t v) ≡ pos 0
only_none true true v e = cc
only_none true false v e = refl
only_none false t v e = refl

flip : (s t : Bool) → (s && t) ≡ false → (t && s) ≡ false
flip s t e = and_comm t s ∙ e

-- a pair without a line has no trust
unjoined : (x y : ℕ) (ls : List Line) → joined x y ls ≡ false → (trust x y ls ≡ pos 0) × (trust y x ls ≡ pos 0)
unjoined x y [] e = (refl, refl)
unjoined x y (l ∷ ls) e =
    let h = or_parts (joins x y l) (joined x y ls) e in
    let k = or_parts (eqb x l.a && eqb y l.b) (eqb x l.b && eqb y l.a) h.0 in
    let r = unjoined x y ls h.1 in (
      omega (arith, ints, r, only_none (eqb x l.a) (eqb y l.b) l.trust_a k.0, only_none (eqb x l.b) (eqb y l.a) l.trust_b k.1),
      omega (arith, ints, r, only_none (eqb y l.a) (eqb x l.b) l.trust_a (flip (eqb x l.b) (eqb y l.a) k.1), only_none (eqb y l.b) (eqb x l.a) l.trust_b (flip (eqb x l.a) (eqb y l.b) k.0)),
    )

-- the trusts of a new line
pair_trust : (s s' t t' : Bool) (v w : ℤ) → (s && t) ≡ false → only s (only s' v) +ℤ only t (only t' w) ≡ cond (s && s') v (cond (t && t') w (pos 0))
pair_trust true s' true t' v w e = cc
pair_trust true true false t' v w e = omega (arith, ints)
pair_trust true false false t' v w e = refl
pair_trust false s' true true v w e = omega (arith, ints)
pair_trust false s' true false v w e = refl
pair_trust false s' false t' v w e = refl

not_both : (i x y : ℕ) → x ≢ y → (eqb i x && eqb i y) ≡ false
not_both i x y d = go (eqb i x) (eqb i y) refl refl
  where
    go : (s t : Bool) → eqb i x ≡ s → eqb i y ≡ t → (s && t) ≡ false
    go true true e f = absurd (d (sym (eqb-true i x e) ∙ eqb-true i y f))
    go true false e f = refl
    go false t e f = refl

new_trust : (x y : ℕ) (t u : ℤ) → x ≢ y → (i j : ℕ) → line_trust i j (new_line x y t u) ≡ cond (eqb i x && eqb j y) t (cond (eqb i y && eqb j x) u (pos 0))
new_trust x y t u d i j = go (ltb x y)
  where
    go : (b : Bool) → line_trust i j (cond b (record { a = x; b = y; trust_a = t; trust_b = u; debt = pos 0 }) (record { a = y; b = x; trust_a = u; trust_b = t; debt = pos 0 })) ≡ cond (eqb i x && eqb j y) t (cond (eqb i y && eqb j x) u (pos 0))
    go true = pair_trust (eqb i x) (eqb j y) (eqb i y) (eqb j x) t u (not_both i x y d)
    go false =
        let e : only (eqb i y) (only (eqb j x) u) +ℤ only (eqb i x) (only (eqb j y) t) ≡ only (eqb i x) (only (eqb j y) t) +ℤ only (eqb i y) (only (eqb j x) u) = omega (arith, ints) in
        e ∙ pair_trust (eqb i x) (eqb j y) (eqb i y) (eqb j x) t u (not_both i x y d)

open_trust : (ls : List Line) (x y : ℕ) (t u : ℤ) → x ≢ y → joined x y ls ≡ false → (i j : ℕ) → trust i j (ls ++ (new_line x y t u ∷ [])) ≡ cond (eqb i x && eqb j y) t (cond (eqb i y && eqb j x) u (trust i j ls))
open_trust ls x y t u d jn i j =
    let before : trust i j (ls ++ (new_line x y t u ∷ [])) ≡ trust i j ls +ℤ cond (eqb i x && eqb j y) t (cond (eqb i y && eqb j x) u (pos 0)) = omega (arith, ints, sum_append (line_trust i j) ls (new_line x y t u ∷ []), new_trust x y t u d i j) in
    before ∙ go (eqb i x && eqb j y) (eqb i y && eqb j x) first second
  where
    go : (b c : Bool) → (b ≡ true → trust i j ls ≡ pos 0) → (c ≡ true → trust i j ls ≡ pos 0) → trust i j ls +ℤ cond b t (cond c u (pos 0)) ≡ cond b t (cond c u (trust i j ls))
    go true c f g = omega (arith, ints, f refl)
    go false true f g = omega (arith, ints, g refl)
    go false false f g = omega (arith, ints)

    first : (eqb i x && eqb j y) ≡ true → trust i j ls ≡ pos 0
    first e = let h = and_parts (eqb i x) (eqb j y) e in subst₂ (λ (v w : ℕ). trust v w ls ≡ pos 0) (sym (eqb-true i x h.0)) (sym (eqb-true j y h.1)) (unjoined x y ls jn).0

    second : (eqb i y && eqb j x) ≡ true → trust i j ls ≡ pos 0
    second e = let h = and_parts (eqb i y) (eqb j x) e in subst₂ (λ (v w : ℕ). trust v w ls ≡ pos 0) (sym (eqb-true i y h.0)) (sym (eqb-true j x h.1)) (unjoined x y ls jn).1

open_net : (ls : List Line) (x y : ℕ) (t u : ℤ) (m : ℕ) → net m (ls ++ (new_line x y t u ∷ [])) ≡ net m ls
open_net ls x y t u m = omega (arith, ints, sum_append (share m) ls (new_line x y t u ∷ []), go (ltb x y))
  where
    none : (c d : Bool) → only c (pos 0) -ℤ only d (pos 0) ≡ pos 0
    none true true = refl
    none true false = refl
    none false true = refl
    none false false = refl

    go : (b : Bool) → share m (cond b (record { a = x; b = y; trust_a = t; trust_b = u; debt = pos 0 }) (record { a = y; b = x; trust_a = u; trust_b = t; debt = pos 0 })) ≡ pos 0
    go true = none (eqb m x) (eqb m y)
    go false = none (eqb m y) (eqb m x)

step_open : (s : State) (x y : ℕ) (t u : ℤ) (r : Answer) (s' : State) → Good s → Does s (Open x y t u) r s' → Step (Open x y t u) s r s'
step_open s x y t u r s' g d = plain (λ r v. Step (Open x y t u) s r v) (open_checks s x y t u) s Done (opened s x y t u) r s' (λ e. stay s g) accepted d
  where
    accepted : open_checks s x y t u ≡ passes → Step (Open x y t u) s Done (opened s x y t u)
    accepted h =
        let o = openable s x y t u h in
        let sv = none_of s.groups o.none in
        record {
          good = record {
            bounds = opened_bounds s x y t u o g.bounds;
            few = omega (arith, length_push s.lines (new_line x y t u), length_shape s.lines, o.few);
            pairs = distinct_shape (s.lines ++ (new_line x y t u ∷ [])) ∙ opened_pairs s x y t u o (sym (distinct_shape s.lines) ∙ g.pairs);
            saved = subst (λ (v : List (List ℤ)). SavedOk (shape (s.lines ++ (new_line x y t u ∷ []))) v) (sym sv) tt;
            fitting = fit_none s.standing _ o.vacant;
          };
          follows = ((λ m h. open_net s.lines x y t u m), refl, inr sv);
          trusts = open_trust s.lines x y t u o.apart o.unjoined;
        }

pub step_keeps : (s : State) (c : Call) (r : Answer) (s' : State) → Good s → Does s c r s' → KeptBy (event c (reply r)) (trust_by c (reply r)) s s'
step_keeps s (Open x y t u) r s' g d = step_open s x y t u r s' g d
step_keeps s (Pay k pay) r s' g d = step_pay s k pay r s' g d
step_keeps s (Reserve k pay) r s' g d = step_reserve s k pay r s' g d
step_keeps s (Book k pay) r s' g d = step_book s k pay r s' g d
step_keeps s (Release pay) r s' g d = step_release s pay r s' g d
step_keeps s Begin r s' g d = step_begin s r s' g d
step_keeps s End r s' g d = step_end s r s' g d
step_keeps s Abandon r s' g d = step_abandon s r s' g d
step_keeps s Tidy r s' g d = step_tidy s r s' g d
