-- Two closings of batches that ask the same, on ledgers that differ only in debts.
use Rattle.std.proofs.Common.{◌≡◌, ℕ, zero, suc, ◌+◌, ◌<◌, ◌≤◌, Bool, true, false, cond, not, ◌||◌, eqb, ltb, List, [], ◌∷◌, ◌++◌, map, length, get_or, ℤ, pos, is_some, Some, None, Ok, Err, vec_items, Option, Result, sym, refl, ap, ◌∙◌, subst, ap₂, arith}
use Rattle.std.specs.List.{range_with_len}
use Rattle.std.proofs.lemmas.List.{map-append}
use Rattle.std.proofs.lemmas.List.FromFn.{get_or-map-range_with_len}
use Rattle.std.proofs.lemmas.Bool.{not-false}
use Rattle.credit.specs.declared.line.Line.{Line}
use Rattle.credit.specs.declared.refusal.Refusal.{Refusal}
use Rattle.credit.specs.declared.refusal.Refusal.TheVariants.{ReservationStands, SavepointOpen, BatchTooLong, LeftOpen}
use Rattle.credit.specs.Refusals.{Verdict}
use Rattle.credit.specs.Net.{net, net_table}
use Rattle.rings.proofs.Rings.{shape, distinct_shape}
use Rattle.ledger.specs.declared.state.Ledger.{Ledger}
use Rattle.calls.specs.declared.call.Call.TheVariants.{Open, Pay as PayCall, Reserve, Release, Begin, End as EndCall, Abandon, Tidy as TidyCall}
use Rattle.calls.specs.declared.call.Answer.{Answer}
use Rattle.calls.specs.declared.call.Answer.TheVariants.{Done, Reserved, Released, Kept, Undone, Refused}
use Rattle.credit.specs.declared.payment.Payment.{Payment}
use Rattle.ledger.specs.States.{OpenGroup, State, state_of}
use Rattle.ledger.specs.Checks.{none_open}
use Rattle.ledger.specs.Calls.{Does}
use Rattle.ledger.proofs.Shapes.{length_shape, shape_with_debts, with_debts_alike}
use Rattle.credit.proofs.Tables.{check_passes}
use Rattle.replay.specs.Runs.{Reply, done, reserved, released, kept, undone, refused, reply}
use Rattle.replay.proofs.Keeps.{Good}
use Rattle.replay.proofs.Tally.{Counted}
use Rattle.replay.proofs.Agree.{Peers, peers_level, peers_step, flags, same_open, net_table_lem}
use Rattle.batch.specs.declared.form.Form.{Form}
use Rattle.batch.specs.declared.form.Form.TheVariants.{Line as LineForm, Pay, Try, Tidy, Route, All, Close}
use Rattle.batch.specs.declared.reader.Step.{Step}
use Rattle.batch.specs.declared.sheet.SheetLine.{SheetLine}
use Rattle.batch.specs.declared.sheet.SheetLine.TheVariants.{Refused as RefusedLine, Net, Debt}
use Rattle.batch.specs.Reads.{steps_of}
use Rattle.closing.specs.Statements.{on_line, has_line, net_lines, debt_lines, statement}
use Rattle.closing.specs.Carries.{printed, LetGo, Serves, ends, accepted, marks_by, Place, at, Stepped, After, Carries}
use Rattle.closing.specs.Closes.{door_checks, Abandons, Carried, ClosesBy}
use Rattle.closing.specs.Agrees.{Told, told, Alike, unrouted, unrouted_or, asked, SameAsked, Agree, SheetLaw}
use Rattle.closing.specs.Agrees as sheets

-- ---- what an answer shows hangs on the reply alone: its line on the sheet, whether it ends the batch, whether it is accepted
abbrev Shown : Type 0
Shown = Told × Bool × Bool

abbrev shown_by : ℕ → Reply → Shown
shown_by l done = (sheets.Told.done l, false, true)
shown_by l (reserved pay) = (sheets.Told.done l, false, true)
shown_by l (released b) = (sheets.Told.done l, false, true)
shown_by l kept = (sheets.Told.kept l, false, true)
shown_by l undone = (sheets.Told.undone l, false, true)
shown_by l (refused e) = (sheets.Told.refused l e, eqb e 13 || eqb e 14, false)

abbrev shown : ℕ → Answer → Shown
shown l r = (told (printed l r), ends r, accepted r)

shown_reply : (l : ℕ) (r : Answer) → shown l r ≡ shown_by l (reply r)
shown_reply l Done = refl
shown_reply l (Reserved pay) = refl
shown_reply l (Released b) = refl
shown_reply l Kept = refl
shown_reply l Undone = refl
shown_reply l (Refused e) = refl

-- ---- a form apart from which router it picks
record SameForm (f g : Form) : Type 0 where
  serves : (s : State) (r : Answer) (s' : State) → Serves s f r s' → Serves s g r s'
  marks : (l : ℕ) (ms : List ℕ) → marks_by f l ms ≡ marks_by g l ms

form_unrouted : (f : Form) → SameForm f (unrouted f)
form_unrouted (LineForm x y t u) = record { serves = λ s r s' d. d; marks = λ l ms. refl }
form_unrouted (Pay pay) = record { serves = λ s r s' d. d; marks = λ l ms. refl }
form_unrouted (Try pay) = record { serves = λ s r s' d. d; marks = λ l ms. refl }
form_unrouted Tidy = record { serves = λ s r s' d. d; marks = λ l ms. refl }
form_unrouted (Route c) = record { serves = λ s r s' d. d; marks = λ l ms. refl }
form_unrouted All = record { serves = λ s r s' d. d; marks = λ l ms. refl }
form_unrouted Close = record { serves = λ s r s' d. d; marks = λ l ms. refl }

-- ---- one form on two ledgers
abbrev Both : Answer → Answer → State → State → Type 0
Both r a s t = (reply r ≡ reply a) × Peers s t

abbrev LetGoBy : Reply → State → State → Type 0
LetGoBy done s s' = ⊥
LetGoBy (reserved pay) s s' = Does s (Release pay) (Released true) s'
LetGoBy (released b) s s' = ⊥
LetGoBy kept s s' = ⊥
LetGoBy undone s s' = ⊥
LetGoBy (refused e) s s' = s' ≡ s

let_go_reply : (r : Answer) (s s' : State) → LetGo r s s' → LetGoBy (reply r) s s'
let_go_reply Done s s' d = d
let_go_reply (Reserved pay) s s' d = d
let_go_reply (Released b) s s' d = d
let_go_reply Kept s s' d = d
let_go_reply Undone s s' d = d
let_go_reply (Refused e) s s' d = d

let_go_both : (r : Reply) (s t s' t' : State) → Peers s t → LetGoBy r s s' → LetGoBy r t t' → Peers s' t'
let_go_both done s t s' t' p d e = absurd d
let_go_both (reserved pay) s t s' t' p d e = (peers_step (Release pay) s t (Released true) (Released true) s' t' p d e).1
let_go_both (released b) s t s' t' p d e = absurd d
let_go_both kept s t s' t' p d e = absurd d
let_go_both undone s t s' t' p d e = absurd d
let_go_both (refused x) s t s' t' p d e = rw (d, e) p

serves_both : (f : Form) (s t : State) (r a : Answer) (s' t' : State) → Peers s t → Serves s f r s' → Serves t f a t' → Both r a s' t'
serves_both (LineForm x y u v) s t r a s' t' p d e = peers_step (Open x y u v) s t r a s' t' p d e
serves_both (Pay pay) s t r a s' t' p d e = peers_step (PayCall 256 pay) s t r a s' t' p d e
serves_both (Try pay) s t r a s' t' p d e =
    let b = peers_step (Reserve 256 pay) s t r a d.0 e.0 p d.1 e.1 in
    (b.0, let_go_both (reply r) d.0 e.0 s' t' b.1 (let_go_reply r d.0 s' d.2) (rw b.0 (let_go_reply a e.0 t' e.2)))
serves_both Tidy s t r a s' t' p d e = peers_step TidyCall s t r a s' t' p d e
serves_both (Route c) s t r a s' t' p d e = (cc, rw (d.1, e.1) p)
serves_both All s t r a s' t' p d e = peers_step Begin s t r a s' t' p d e
serves_both Close s t r a s' t' p d e = peers_step EndCall s t r a s' t' p d e

-- ---- one line of each batch
record Same (x y : SheetLine) (over past : Bool) (from to : Place) : Type 0 where
  tells : told x ≡ told y
  ends_too : over ≡ past
  peers : Peers from.state to.state
  marks : from.marks ≡ to.marks

stepped_both : (f g : Result Form Refusal) (l : ℕ) (from at_other : Place) (x y : SheetLine) (over past : Bool) (to to-other : Place)
    → unrouted_or f ≡ unrouted_or g → Peers from.state at_other.state → from.marks ≡ at_other.marks
    → Stepped f l from x over to → Stepped g l at_other y past to-other → Same x y over past to to-other
stepped_both (Err e) (Err k) l from o x y over past to too h p m d c =
    let w : e ≡ k = cc in
    record { tells = rw (d.0, c.0, w); ends_too = d.1 ∙ sym c.1; peers = rw (d.2, c.2) p; marks = rw (d.2, c.2) m }
stepped_both (Err e) (Ok g) l from o x y over past to too h p m d c = cc
stepped_both (Ok f) (Err k) l from o x y over past to too h p m d c = cc
stepped_both (Ok f) (Ok g) l from o x y over past to too h p m d c =
    let w : unrouted f ≡ unrouted g = cc in
    let one = (form_unrouted f).serves from.state d.0 to.state d.1 in
    let other : Serves o.state (unrouted f) c.0 too.state = rw w ((form_unrouted g).serves o.state c.0 too.state c.1) in
    let b = serves_both (unrouted f) from.state o.state d.0 c.0 to.state too.state p one other in
    let shows : shown l d.0 ≡ shown l c.0 = shown_reply l d.0 ∙ ap (shown_by l) b.0 ∙ sym (shown_reply l c.0) in
    let tells : told (printed l d.0) ≡ told (printed l c.0) = ap (λ v. v.0) shows in
    let over_too : ends d.0 ≡ ends c.0 = ap (λ v. v.1) shows in
    let taken : accepted d.0 ≡ accepted c.0 = ap (λ v. v.2) shows in
    let one_marks = (form_unrouted f).marks l from.marks in
    let other_marks = (form_unrouted g).marks l o.marks in
    record { tells = cc; ends_too = cc; peers = b.1; marks = cc }

-- ---- the lines of two batches
record Matched (xs ys : List SheetLine) (from to : Place) : Type 0 where
  tells : map told xs ≡ map told ys
  peers : Peers from.state to.state
  marks : from.marks ≡ to.marks

matched_none : (xs ys : List SheetLine) (p q p' q' : Place) → Peers p.state q.state → p.marks ≡ q.marks → (xs ≡ []) × (p' ≡ p) → (ys ≡ []) × (q' ≡ q) → Matched xs ys p' q'
matched_none xs ys p q p' q' h m d e =
    record { tells = rw (d.0, e.0); peers = rw (d.1, e.1) h; marks = rw (d.1, e.1) m }

carries_both : (ss us : List Step) (p q : Place) (xs ys : List SheetLine) (p' q' : Place)
    → map asked ss ≡ map asked us → Peers p.state q.state → p.marks ≡ q.marks
    → Carries ss p xs p' → Carries us q ys q' → Matched xs ys p' q'
carries_both [] [] p q xs ys p' q' h k m d e = matched_none xs ys p q p' q' k m d e
carries_both [] (u ∷ us) p q xs ys p' q' h k m d e = cc
carries_both (s ∷ ss) [] p q xs ys p' q' h k m d e = cc
carries_both (s ∷ ss) (u ∷ us) p q xs ys p' q' h k m d e =
    let first : asked s ≡ asked u = cc in
    let line : s.line ≡ u.line = ap (λ (v : Step). v.line) first in
    let form : unrouted_or s.form ≡ unrouted_or u.form = ap (λ (v : Step). v.form) first in
    let rest : map asked ss ≡ map asked us = cc in
    let other = subst (λ l. Stepped u.form l q e.0 e.1 e.2) (sym line) e.4 in
    let b = stepped_both s.form u.form s.line p q d.0 e.0 d.1 e.1 d.2 e.2 form k m d.4 other in
    let more = go d.1 e.1 b.ends_too b.peers b.marks d.6 e.6
    (λ f g. carries_both ss us d.2 e.2 d.3 e.3 p' q' rest b.peers b.marks f g) in
    record {
      tells = rw (d.5, e.5) (ap₂ (λ x t. x ∷ t) b.tells more.tells);
      peers = more.peers;
      marks = more.marks;
    }
  where
    go : (over past : Bool) → over ≡ past → Peers d.2.state e.2.state → d.2.marks ≡ e.2.marks
        → After over (Carries ss) d.2 d.3 p' → After past (Carries us) e.2 e.3 q'
        → (Carries ss d.2 d.3 p' → Carries us e.2 e.3 q' → Matched d.3 e.3 p' q') → Matched d.3 e.3 p' q'
    go true true o k m f g next = matched_none d.3 e.3 d.2 e.2 p' q' k m f g
    go true false o k m f g next = cc
    go false true o k m f g next = cc
    go false false o k m f g next = next f g

-- ---- the end
record EndedAlike (xs ys : List SheetLine) (s t : State) : Type 0 where
  tells : map told xs ≡ map told ys
  peers : Peers s t

abandons_both : (ms : List ℕ) (s t : State) (xs ys : List SheetLine) (s' t' : State) → Peers s t → Abandons ms s xs s' → Abandons ms t ys t' → EndedAlike xs ys s' t'
abandons_both [] s t xs ys s' t' p d e =
    record { tells = rw (d.0, e.0); peers = rw (d.1, e.1) p }
abandons_both (m ∷ ms) s t xs ys s' t' p d e =
    let b = peers_step Abandon s t Undone Undone d.0 e.0 p d.2 e.2 in
    let i = abandons_both ms d.0 e.0 d.1 e.1 s' t' b.1 d.4 e.4 in
    record { tells = rw (d.3, e.3) (ap (λ v. told (RefusedLine m LeftOpen) ∷ v) i.tells); peers = i.peers }

-- ---- the statement
has_shape : (m : ℕ) (ls : List Line) → has_line m (shape ls) ≡ has_line m ls
has_shape m [] = refl
has_shape m (l ∷ ls) = ap (λ (v : Bool). on_line m l || v) (has_shape m ls)

has_alike : (m : ℕ) (ls ks : List Line) → shape ls ≡ shape ks → has_line m ls ≡ has_line m ks
has_alike m ls ks e = sym (has_shape m ls) ∙ ap (has_line m) e ∙ has_shape m ks

nets_alike : (ls ks : List Line) → shape ls ≡ shape ks → ((m : ℕ) → m < 64 → net m ls ≡ net m ks) → (a n : ℕ) → a + n ≤ 64
    → net_lines ls (range_with_len a n) ≡ net_lines ks (range_with_len a n)
unfolding net_lines
nets_alike ls ks e h a zero f = refl
nets_alike ls ks e h a (suc n) f =
    ap₂ (λ (v w : List SheetLine). v ++ w)
    (ap₂ (λ (b : Bool) (x : ℤ). cond b (Net a x ∷ []) []) (has_alike a ls ks e) (h a (omega arith)))
    (nets_alike ls ks e h (a + 1) n (omega arith))

debts_shape : (ls : List Line) → map told (debt_lines (shape ls)) ≡ map told (debt_lines ls)
debts_shape [] = refl
debts_shape (l ∷ ls) = ap (λ (v : List Told). told (Debt l.a l.b l.debt) ∷ v) (debts_shape ls)

statement_alike : (ls ks : List Line) → shape ls ≡ shape ks → ((m : ℕ) → m < 64 → net m ls ≡ net m ks) → map told (statement ls) ≡ map told (statement ks)
unfolding statement
statement_alike ls ks e h =
    let nets = nets_alike ls ks e h 0 64 (omega arith) in
    let debts : map told (debt_lines ls) ≡ map told (debt_lines ks) = sym (debts_shape ls) ∙ ap (λ v. map told (debt_lines v)) e ∙ debts_shape ks in
    simp map-append (cc)

-- ---- ledgers alike
level : (ls ks : List Line) → net_table ls ≡ net_table ks → (m : ℕ) → m < 64 → net m ls ≡ net m ks
level ls ks e m h =
    sym (get_or-map-range_with_len (λ k. net k ls) 0 64 m m (pos 0) h (omega arith))
    ∙ ap (λ (v : List ℤ). get_or v m (pos 0)) e
    ∙ get_or-map-range_with_len (λ k. net k ks) 0 64 m m (pos 0) h (omega arith)

none_some : (st : Option Payment) → is_some st ≡ false → st ≡ None
none_some None e = refl
none_some (Some c) e = cc

none_groups : (gs : List OpenGroup) → none_open gs ≡ true → gs ≡ []
none_groups [] e = refl
none_groups (g ∷ gs) e = cc

good_of : (l : Ledger) → (state_of l).groups ≡ [] → Good (state_of l)
good_of l e = record {
  bounds = l.bounds;
  few = omega (arith, length_shape (vec_items l.lines), l.lines.ok.0, l.few);
  pairs = distinct_shape (vec_items l.lines) ∙ l.pairs;
  saved = rw e tt;
  fitting = record { ok = l.proper; room_left = l.fitting };
}

counted_from : (s : State) (f : ℕ → ℕ → ℤ) → s.groups ≡ [] → ((m : ℕ) → m < 64 → net m s.lines ≡ f m zero) → Counted f s
counted_from s f e h = record { now = h; back = rw e tt }

-- past their doors two ledgers that differ only in debts are peers
start : (l k : Ledger) → Alike (state_of l) (state_of k) → is_some (state_of l).standing ≡ false → none_open (state_of l).groups ≡ true → Peers (state_of l) (state_of k)
start l k a free out =
    let s = state_of l in
    let t = state_of k in
    let gs : s.groups ≡ [] = none_groups s.groups out in
    let hs : t.groups ≡ [] = none_groups t.groups (sym a.groups ∙ out) in
    let st : s.standing ≡ None = none_some s.standing free in
    let tt : t.standing ≡ None = none_some t.standing (sym a.standing ∙ free) in
    let lv = level s.lines t.lines a.nets in
    record {
      good_one = good_of l gs;
      good_other = good_of k hs;
      alike = record { shapes = sym (shape_with_debts s.lines []) ∙ ap shape a.lines ∙ shape_with_debts t.lines []; spoilt = ap flags (gs ∙ sym hs); held = st ∙ sym tt };
      nets = λ m d. net m s.lines;
      one = counted_from s (λ m d. net m s.lines) gs (λ m h. refl);
      other = counted_from t (λ m d. net m s.lines) hs (λ m h. sym (lv m h));
    }

alike_again : (s t : State) → Peers s t → Alike s t
alike_again s t p = record {
  lines = with_debts_alike s.lines t.lines [] p.alike.shapes;
  nets = net_table_lem s.lines t.lines (peers_level s t p);
  groups = same_open s.groups t.groups p.alike.spoilt;
  standing = ap is_some p.alike.held;
}

-- ---- two whole closings
carried_both : (s t : State) (b c : List ℕ) (xs ys : List SheetLine) (s' t' : State) → Peers s t → SameAsked b c → Carried s b xs s' → Carried t c ys t' → Agree xs ys s' t'
carried_both s t b c xs ys s' t' p f d e =
    let m = carries_both (steps_of b) (steps_of c) (at s []) (at t []) d.answers e.answers d.place e.place f.forms p refl d.carries e.carries in
    let left : Abandons d.place.marks e.place.state e.ended.left t' = rw m.marks e.ended.abandons in
    let n = abandons_both d.place.marks d.place.state e.place.state d.ended.left e.ended.left s' t' m.peers d.ended.abandons left in
    let st = statement_alike s'.lines t'.lines n.peers.alike.shapes (peers_level s' t' n.peers) in
    record { sheets = simp (d.sheet_is, e.sheet_is, d.ended.sheet_is, e.ended.sheet_is, map-append) (cc (m.tells, n.tells)); ledgers = alike_again s' t' n.peers }

door_same : (s t : State) (b c : List ℕ) → Alike s t → SameAsked b c → door_checks s b ≡ door_checks t c
door_same s t b c a f = rw (f.long, a.standing, a.groups)

pub sheet_law : SheetLaw
sheet_law one other b c xs ys s t a f d e =
    go (door_checks (state_of one) b) refl d (rw (door_same (state_of one) (state_of other) b c a f) e)
  where
    go : (v : Verdict) → door_checks (state_of one) b ≡ v → ClosesBy v (state_of one) b xs s → ClosesBy v (state_of other) c ys t → Agree xs ys s t
    go (Err x) h d e = record { sheets = rw (d.0, e.0); ledgers = rw (d.1, e.1) a }
    go (Ok u) h d e =
        let long = check_passes (ltb 32768 (length b)) BatchTooLong _ h in
        let free = check_passes (is_some (state_of one).standing) ReservationStands _ long.1 in
        let out = check_passes (not (none_open (state_of one).groups)) SavepointOpen _ free.1 in
        carried_both (state_of one) (state_of other) b c xs ys s t (start one other a free.0 (not-false (none_open (state_of one).groups) out.0)) f d e
