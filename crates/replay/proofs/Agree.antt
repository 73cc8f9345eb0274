-- Two runs with the same calls give the same answers and nets; room decides.
use Rattle.std.proofs.Common.{◌≡◌, ℕ, zero, suc, ◌+◌, ◌<◌, Bool, true, false, cond, not, ◌&&◌, ◌||◌, eqb, leb, List, [], ◌∷◌, ◌++◌, map, length, ℤ, pos, ◌+ℤ◌, ◌≤ℤ◌, ◌<ℤ◌, is_some, Some, None, Ok, Err, Option, sym, refl, ap, ◌∙◌, subst, ap₂, subst₂, arith}
use mathlib.Core.Path.{fun_ext}
use Rattle.std.proofs.lemmas.Int.{ints}
use Rattle.std.specs.List.{range_with_len}
use Rattle.credit.specs.declared.line.Line.{Line}
use Rattle.credit.specs.declared.payment.Payment.{Payment}
use Rattle.credit.specs.declared.refusal.Refusal.{Refusal}
use Rattle.credit.specs.declared.refusal.Refusal.TheVariants.{NoSuchMember, SameMember, OutOfRange, ReservationStands, Spoiled, PairHasLine, TooManyLines, SavepointOpen, TooManySavepoints, NoSavepoint, NoSuchReservation, BadPlanSheet}
use Rattle.credit.specs.Refusals.{Verdict, passes, check, number_of}
use Rattle.credit.specs.Net.{net, net_table, in_trust}
use Rattle.credit.specs.Rooms.{room, trust, net_inside}
use Rattle.credit.specs.Pairs.{joined}
use Rattle.credit.specs.Plans.{with_debt, booked}
use Rattle.credit.proofs.Rooms.{ends_bounded, room_is, trust_into_ext}
use Rattle.routing.specs.Meaning.{not_members, payment_checks, Routes}
use Rattle.rings.specs.Rings.{Tidied}
use Rattle.rings.proofs.Rings.{shape, joined_shape, distinct_shape, tidied_keeps}
use Rattle.calls.specs.declared.call.Call.{Call}
use Rattle.calls.specs.declared.call.Call.TheVariants.{Open, Pay, Reserve, Book, Release, Begin, End, Abandon, Tidy}
use Rattle.calls.specs.declared.call.Answer.{Answer}
use Rattle.calls.specs.declared.call.Answer.TheVariants.{Done, Released, Kept, Undone}
use Rattle.ledger.specs.Debts.{with_debts}
use Rattle.ledger.specs.States.{OpenGroup, State, with_lines, with_groups, with_standing}
use Rattle.ledger.specs.Checks.{inmost_spoiled, none_open, matches, pay_checks, book_checks, open_checks, begin_checks, close_checks}
use Rattle.ledger.specs.Calls.{blank, new_line, opened, begun, closed, spoils, spoil_inmost, after_refusal, Paid, Pays, Held, Reserves, Books, Plain, Does}
use Rattle.ledger.proofs.Shapes.{shape_booked, shape_with_debts, length_shape, room_alike}
use Rattle.ledger.proofs.Steps.{Checked, pay_checked, refused_tells, routed_fits}
use Rattle.replay.specs.Runs.{Turn, latest, Run, calls, net_tables, Reply, refused, reply, replies}
use Rattle.replay.specs.History.{Event, event, trust_set, tally_by, tally}
use Rattle.replay.specs.Law.{room_by, Short, LacksRoom, LacksRight, RoomRule, RoomDecides, Law}
use Rattle.replay.proofs.Keeps.{Good, Follows, few_lines, step_keeps}
use Rattle.replay.proofs.Tally.{Known, known, tallied, Counted, next, counted}

-- ---- room decides
room_by_lem : (ts : List Turn) → Known ts → (g : ℕ) → room g (latest ts).lines ≡ room_by g ts
room_by_lem ts k g =
    room_is g (latest ts).lines (ends_bounded (latest ts).lines k.good.bounds)
    ∙ ap (λ (v : ℤ). v +ℤ net_inside g (λ m. net m (latest ts).lines)) (trust_into_ext g (λ i j. trust i j (latest ts).lines) (trust_set ts) (λ i j hi hj. k.trusts i j))

-- what the router's answer makes of the ledger's
abbrev PassedOn : Verdict → Reply → Type 0
PassedOn (Ok u) r = LacksRoom r → ⊥
PassedOn (Err e) r = r ≡ refused (number_of e)

-- a router refuses exactly where a group is short of room
lacks_right : (ts : List Turn) (pay : Payment) (r : Reply) → Known ts → Checked pay → (v : Verdict) (plan : List ℤ) → Routes (latest ts).lines pay blank v plan → PassedOn v r → (LacksRoom r → Short ts pay) × (Short ts pay → LacksRoom r)
lacks_right ts pay r k c (Ok u) plan d o = ((λ e. absurd (o e)), (λ sh. absurd (clash sh)))
  where
    clash : Short ts pay → ⊥
    clash sh = omega (arith, ints, routed_fits (latest ts).lines pay plan k.good.bounds d sh.0 sh.2 sh.3, room_by_lem ts k sh.0, sh.4)
lacks_right ts pay r k c (Err e) plan d o =
    let t = refused_tells (latest ts).lines pay e plan k.good.bounds (few_lines (latest ts) k.good) c d in
    ((λ _. (t.group.bits, t.word, t.payer, t.payee, subst (λ (v : ℤ). v <ℤ pay.amount) (room_by_lem ts k t.group.bits) t.less)), (λ _. o ∙ ap (λ (x : Refusal). refused (number_of x)) t.named))

right_pay : (ts : List Turn) (k : ℕ) (pay : Payment) (r : Answer) (s' : State) → Known ts → Does (latest ts) (Pay k pay) r s' → LacksRight k pay ts (reply r)
right_pay ts k pay r s' kn d h = let f = subst (λ (v : Verdict). Pays v (latest ts) pay r s') h d in lacks_right ts pay (reply r) kn (pay_checked (latest ts) k pay h).1 f.0 f.1 f.2 (on f.0 f.1 f.3)
  where
    on : (v : Verdict) (plan : List ℤ) → Paid v plan (latest ts) r s' → PassedOn v (reply r)
    on (Ok u) plan t = λ e. let f = ap reply t.0 in cc
    on (Err x) plan t = ap reply t.0

right_reserve : (ts : List Turn) (k : ℕ) (pay : Payment) (r : Answer) (s' : State) → Known ts → Does (latest ts) (Reserve k pay) r s' → LacksRight k pay ts (reply r)
right_reserve ts k pay r s' kn d h = let f = subst (λ (v : Verdict). Reserves v (latest ts) pay r s') h d in lacks_right ts pay (reply r) kn (pay_checked (latest ts) k pay h).1 f.0 f.1 f.2 (on f.0 f.3)
  where
    on : (v : Verdict) → Held v pay (latest ts) r s' → PassedOn v (reply r)
    on (Ok u) t = λ e. let f = ap reply t.0 in cc
    on (Err x) t = ap reply t.0

rule : (c : Call) (ts : List Turn) (r : Answer) (s' : State) → Known ts → Does (latest ts) c r s' → RoomRule c ts (reply r)
rule (Open x y t u) ts r s' k d = tt
rule (Pay k pay) ts r s' kn d = right_pay ts k pay r s' kn d
rule (Reserve k pay) ts r s' kn d = right_reserve ts k pay r s' kn d
rule (Book k pay) ts r s' kn d = tt
rule (Release pay) ts r s' kn d = tt
rule Begin ts r s' kn d = tt
rule End ts r s' kn d = tt
rule Abandon ts r s' kn d = tt
rule Tidy ts r s' kn d = tt

pub decides : (ts : List Turn) → Run ts → RoomDecides ts
decides [] r = tt
decides (t ∷ ts) r = (rule t.call ts t.answer t.after (known ts r.1) r.0, decides ts r.1)

-- ---- what two ledgers share apart from their debts
abbrev pub flags : List OpenGroup → List Bool
flags [] = []
flags (g ∷ gs) = g.spoiled ∷ flags gs

pub record Alike (s t : State) : Type 0 where
  pub shapes : shape s.lines ≡ shape t.lines
  pub spoilt : flags s.groups ≡ flags t.groups
  pub held : s.standing ≡ t.standing

same_inmost : (gs hs : List OpenGroup) → flags gs ≡ flags hs → inmost_spoiled gs ≡ inmost_spoiled hs
same_inmost [] [] e = refl
same_inmost [] (h ∷ hs) e = cc
same_inmost (g ∷ gs) [] e = cc
same_inmost (g ∷ gs) (h ∷ hs) e = cc

pub same_open : (gs hs : List OpenGroup) → flags gs ≡ flags hs → none_open gs ≡ none_open hs
same_open [] [] e = refl
same_open [] (h ∷ hs) e = cc
same_open (g ∷ gs) [] e = cc
same_open (g ∷ gs) (h ∷ hs) e = refl

same_count : (gs : List OpenGroup) → length gs ≡ length (flags gs)
same_count [] = refl
same_count (g ∷ gs) = ap suc (same_count gs)

same_spoil : (gs hs : List OpenGroup) → flags gs ≡ flags hs → flags (spoil_inmost gs) ≡ flags (spoil_inmost hs)
same_spoil [] [] e = refl
same_spoil [] (h ∷ hs) e = cc
same_spoil (g ∷ gs) [] e = cc
same_spoil (g ∷ gs) (h ∷ hs) e = let f : flags gs ≡ flags hs = cc in ap (λ (v : List Bool). true ∷ v) f

module _ (s t : State) (k : Alike s t) where
  pay_same : (z : ℕ) (pay : Payment) → pay_checks s z pay ≡ pay_checks t z pay
  pay_same z pay = ap₂ (λ (st : Option Payment) (b : Bool). check (not (eqb z 256)) BadPlanSheet (check (is_some st) ReservationStands (check b Spoiled (payment_checks pay passes)))) k.held (same_inmost s.groups t.groups k.spoilt)

  book_same : (z : ℕ) (pay : Payment) → book_checks s z pay ≡ book_checks t z pay
  book_same z pay = ap (λ (st : Option Payment). check (not (eqb z 256)) BadPlanSheet (check (not (matches st pay)) NoSuchReservation passes)) k.held

  begin_same : begin_checks s ≡ begin_checks t
  begin_same = ap₂ (λ (st : Option Payment) (b : ℕ). check (is_some st) ReservationStands (check (leb 8 b) TooManySavepoints passes)) k.held (same_count s.groups ∙ ap length k.spoilt ∙ sym (same_count t.groups))

  close_same : close_checks s ≡ close_checks t
  close_same = ap₂ (λ (st : Option Payment) (b : Bool). check (is_some st) ReservationStands (check b NoSavepoint passes)) k.held (same_open s.groups t.groups k.spoilt)

  open_same : (x y : ℕ) (u v : ℤ) → open_checks s x y u v ≡ open_checks t x y u v
  open_same x y u v =
      let j : joined x y s.lines ≡ joined x y t.lines = sym (joined_shape x y s.lines) ∙ ap (joined x y) k.shapes ∙ joined_shape x y t.lines in
      let l : length s.lines ≡ length t.lines = sym (length_shape s.lines) ∙ ap length k.shapes ∙ length_shape t.lines in
      ap₂ (λ (st : Option Payment) (b : Bool). check (is_some st) ReservationStands (check (not b) SavepointOpen (check (not_members x y) NoSuchMember (check (eqb x y) SameMember (check (not (in_trust u && in_trust v)) OutOfRange (check (joined x y s.lines) PairHasLine (check (leb 256 (length s.lines)) TooManyLines passes))))))) k.held (same_open s.groups t.groups k.spoilt)
      ∙ ap₂ (λ (b : Bool) (m : ℕ). check (is_some t.standing) ReservationStands (check (not (none_open t.groups)) SavepointOpen (check (not_members x y) NoSuchMember (check (eqb x y) SameMember (check (not (in_trust u && in_trust v)) OutOfRange (check b PairHasLine (check (leb 256 m) TooManyLines passes))))))) j l

  -- refusals of one number spoil alike
  alike_spoiled : (e f : Refusal) → number_of e ≡ number_of f → Alike (after_refusal e s) (after_refusal f t)
  alike_spoiled e f h = subst (λ (b : Bool). Alike (after_refusal e s) (cond b (with_groups t (spoil_inmost t.groups)) t)) (ap (λ (m : ℕ). eqb m 5 || (eqb m 6 || (eqb m 7 || eqb m 16))) h) (go (spoils e))
    where
      go : (b : Bool) → Alike (cond b (with_groups s (spoil_inmost s.groups)) s) (cond b (with_groups t (spoil_inmost t.groups)) t)
      go true = record { shapes = k.shapes; spoilt = same_spoil s.groups t.groups k.spoilt; held = k.held }
      go false = k

  alike_held : (st : Option Payment) → Alike (with_standing s st) (with_standing t st)
  alike_held st = record { shapes = k.shapes; spoilt = k.spoilt; held = refl }

  alike_booked : (f g : List ℤ) → Alike (with_lines s (booked s.lines f)) (with_lines t (booked t.lines g))
  alike_booked f g = record { shapes = shape_booked s.lines f ∙ k.shapes ∙ sym (shape_booked t.lines g); spoilt = k.spoilt; held = k.held }

  alike_begun : Alike (begun s) (begun t)
  alike_begun = record { shapes = k.shapes; spoilt = ap₂ (λ (b : Bool) (v : List Bool). b ∷ v) (same_inmost s.groups t.groups k.spoilt) k.spoilt; held = k.held }

  alike_closed : (keep : Bool) → Alike (closed s s.groups keep) (closed t t.groups keep)
  alike_closed keep = go s.groups t.groups k.spoilt keep
    where
      lines : (b : Bool) (x y : List ℤ) → shape (cond b s.lines (with_debts s.lines x)) ≡ shape (cond b t.lines (with_debts t.lines y))
      lines true x y = k.shapes
      lines false x y = shape_with_debts s.lines x ∙ k.shapes ∙ sym (shape_with_debts t.lines y)

      go : (gs hs : List OpenGroup) → flags gs ≡ flags hs → (b : Bool) → Alike (closed s gs b) (closed t hs b)
      go [] [] e b = k
      go [] (h ∷ hs) e b = cc
      go (g ∷ gs) [] e b = cc
      go (g ∷ gs) (h ∷ hs) e b = let f : flags gs ≡ flags hs = cc in record { shapes = lines b g.saved h.saved; spoilt = f; held = k.held }

  alike_opened : (x y : ℕ) (u v : ℤ) → Alike (opened s x y u v) (opened t x y u v)
  alike_opened x y u v = record { shapes = push s.lines ∙ ap (λ (w : List Line). w ++ (with_debt (new_line x y u v) (pos 0) ∷ [])) k.shapes ∙ sym (push t.lines); spoilt = k.spoilt; held = k.held }
    where
      push : (ls : List Line) → shape (ls ++ (new_line x y u v ∷ [])) ≡ shape ls ++ (with_debt (new_line x y u v) (pos 0) ∷ [])
      push [] = refl
      push (l ∷ ls) = ap (λ (w : List Line). with_debt l (pos 0) ∷ w) (push ls)

-- the same answer, and ledgers alike again
abbrev Twin : Answer → Answer → State → State → Type 0
Twin r q s t = (reply r ≡ reply q) × Alike s t

twin : {r q a b : Answer} {s t x y : State} → r ≡ a → s ≡ x → q ≡ b → t ≡ y → reply a ≡ reply b → Alike x y → Twin r q s t
twin e f g h u v = (ap reply e ∙ u ∙ sym (ap reply g), subst₂ (λ (s t : State). Alike s t) (sym f) (sym h) v)

-- for the calls that a router has no part in
twin_plain : (v w : Verdict) (s t : State) (a b : Answer) (x y : State) (r q : Answer) (s' t' : State) → v ≡ w → Alike s t → a ≡ b → Alike x y → Plain v s a x r s' → Plain w t b y q t' → Twin r q s' t'
twin_plain v w s t a b x y r q s' t' e k same kk d f = go v d (subst (λ (u : Verdict). Plain u t b y q t') (sym e) f)
  where
    go : (v : Verdict) → Plain v s a x r s' → Plain v t b y q t' → Twin r q s' t'
    go (Ok u) d f = twin d.0 d.1 f.0 f.1 (ap reply same) kk
    go (Err c) d f = twin d.0 d.1 f.0 f.1 refl k

-- the nets of two ledgers
abbrev pub Level : State → State → Type 0
Level s t = (m : ℕ) → m < 64 → net m s.lines ≡ net m t.lines

-- one routed and the other lacking room cannot be
never_both : (s t : State) (pay : Payment) (e : Refusal) (f g : List ℤ) → Good s → Good t → Alike s t → Level s t → Checked pay → Routes s.lines pay blank passes f → Routes t.lines pay blank (Err e) g → ⊥
never_both s t pay e f g hs ht k lv c d o =
    let x = refused_tells t.lines pay e g ht.bounds (few_lines t ht) c o in
    let fit : pay.amount ≤ℤ room x.group.bits s.lines = routed_fits s.lines pay f hs.bounds d x.group.bits x.payer x.payee in
    omega (arith, ints, fit, x.less, room_alike x.group.bits s.lines t.lines (ends_bounded s.lines hs.bounds) (ends_bounded t.lines ht.bounds) k.shapes lv)

alike_flip : (s t : State) → Alike s t → Alike t s
alike_flip s t k = record { shapes = sym k.shapes; spoilt = sym k.spoilt; held = sym k.held }

-- both refuse for want of room
same_number : (s t : State) (pay : Payment) (e x : Refusal) (f g : List ℤ) → Good s → Good t → Checked pay → Routes s.lines pay blank (Err e) f → Routes t.lines pay blank (Err x) g → number_of e ≡ number_of x
same_number s t pay e x f g hs ht c d o =
    ap number_of (refused_tells s.lines pay e f hs.bounds (few_lines s hs) c d).named
    ∙ sym (ap number_of (refused_tells t.lines pay x g ht.bounds (few_lines t ht) c o).named)

twin_pay : (s t : State) (z : ℕ) (pay : Payment) (r a : Answer) (s' t' : State) → Good s → Good t → Alike s t → Level s t → Does s (Pay z pay) r s' → Does t (Pay z pay) a t' → Twin r a s' t'
twin_pay s t z pay r a s' t' hs ht k lv d f = go (pay_checks s z pay) refl d (subst (λ (v : Verdict). Pays v t pay a t') (sym (pay_same s t k z pay)) f)
  where
    by : (v w : Verdict) (f g : List ℤ) → Checked pay → Routes s.lines pay blank v f → Paid v f s r s' → Routes t.lines pay blank w g → Paid w g t a t' → Twin r a s' t'
    by (Ok u) (Ok y) f g c m d o e = twin d.0 d.1 e.0 e.1 refl (alike_booked s t k f g)
    by (Ok u) (Err y) f g c m d o e = absurd (never_both s t pay y f g hs ht k lv c m o)
    by (Err x) (Ok y) f g c m d o e = absurd (never_both t s pay x g f ht hs (alike_flip s t k) (λ i j. sym (lv i j)) c o m)
    by (Err x) (Err y) f g c m d o e = let h = same_number s t pay x y f g hs ht c m o in twin d.0 d.1 e.0 e.1 (ap refused h) (alike_spoiled s t k x y h)

    go : (v : Verdict) → pay_checks s z pay ≡ v → Pays v s pay r s' → Pays v t pay a t' → Twin r a s' t'
    go (Ok u) h d f = by d.0 f.0 d.1 f.1 (pay_checked s z pay h).1 d.2 d.3 f.2 f.3
    go (Err e) h d f = twin d.0 d.1 f.0 f.1 refl (alike_spoiled s t k e e refl)

twin_reserve : (s t : State) (z : ℕ) (pay : Payment) (r a : Answer) (s' t' : State) → Good s → Good t → Alike s t → Level s t → Does s (Reserve z pay) r s' → Does t (Reserve z pay) a t' → Twin r a s' t'
twin_reserve s t z pay r a s' t' hs ht k lv d f = go (pay_checks s z pay) refl d (subst (λ (v : Verdict). Reserves v t pay a t') (sym (pay_same s t k z pay)) f)
  where
    by : (v w : Verdict) (f g : List ℤ) → Checked pay → Routes s.lines pay blank v f → Held v pay s r s' → Routes t.lines pay blank w g → Held w pay t a t' → Twin r a s' t'
    by (Ok u) (Ok y) f g c m d o e = twin d.0 d.1 e.0 e.1 refl (alike_held s t k (Some pay))
    by (Ok u) (Err y) f g c m d o e = absurd (never_both s t pay y f g hs ht k lv c m o)
    by (Err x) (Ok y) f g c m d o e = absurd (never_both t s pay x g f ht hs (alike_flip s t k) (λ i j. sym (lv i j)) c o m)
    by (Err x) (Err y) f g c m d o e = twin d.0 d.1 e.0 e.1 (ap refused (same_number s t pay x y f g hs ht c m o)) k

    go : (v : Verdict) → pay_checks s z pay ≡ v → Reserves v s pay r s' → Reserves v t pay a t' → Twin r a s' t'
    go (Ok u) h d f = by d.0 f.0 d.1 f.1 (pay_checked s z pay h).1 d.2 d.3 f.2 f.3
    go (Err e) h d f = twin d.0 d.1 f.0 f.1 refl k

twin_book : (s t : State) (z : ℕ) (pay : Payment) (r a : Answer) (s' t' : State) → Alike s t → Does s (Book z pay) r s' → Does t (Book z pay) a t' → Twin r a s' t'
twin_book s t z pay r a s' t' k d f = go (book_checks s z pay) d (subst (λ (v : Verdict). Books v t pay a t') (sym (book_same s t k z pay)) f)
  where
    go : (v : Verdict) → Books v s pay r s' → Books v t pay a t' → Twin r a s' t'
    go (Ok u) d f = let b = alike_booked s t k d.0 f.0 in twin d.2 d.3 f.2 f.3 refl (record { shapes = b.shapes; spoilt = b.spoilt; held = refl })
    go (Err e) d f = twin d.0 d.1 f.0 f.1 refl k

twin_release : (s t : State) (pay : Payment) (r a : Answer) (s' t' : State) → Alike s t → Does s (Release pay) r s' → Does t (Release pay) a t' → Twin r a s' t'
twin_release s t pay r a s' t' k d f = twin d.0 d.1 f.0 f.1 (ap (λ (st : Option Payment). reply (Released (matches st pay))) k.held) (subst (λ (b : Bool). Alike (cond (matches s.standing pay) (with_standing s None) s) (cond b (with_standing t None) t)) (ap (λ (st : Option Payment). matches st pay) k.held) (go (matches s.standing pay)))
  where
    go : (b : Bool) → Alike (cond b (with_standing s None) s) (cond b (with_standing t None) t)
    go true = alike_held s t k None
    go false = k

tidy_shape : (s : State) → Good s → (ls : List Line) → Tidied s.lines ls → shape ls ≡ shape s.lines
tidy_shape s g ls t = (tidied_keeps s.lines ls (sym (distinct_shape s.lines) ∙ g.pairs) g.bounds t).shapes

twin_step : (c : Call) (s t : State) (r a : Answer) (s' t' : State) → Good s → Good t → Alike s t → Level s t → Does s c r s' → Does t c a t' → Twin r a s' t'
twin_step (Open x y u v) s t r a s' t' hs ht k lv d f = twin_plain _ _ s t Done Done (opened s x y u v) (opened t x y u v) r a s' t' (open_same s t k x y u v) k refl (alike_opened s t k x y u v) d f
twin_step (Pay z pay) s t r a s' t' hs ht k lv d f = twin_pay s t z pay r a s' t' hs ht k lv d f
twin_step (Reserve z pay) s t r a s' t' hs ht k lv d f = twin_reserve s t z pay r a s' t' hs ht k lv d f
twin_step (Book z pay) s t r a s' t' hs ht k lv d f = twin_book s t z pay r a s' t' k d f
twin_step (Release pay) s t r a s' t' hs ht k lv d f = twin_release s t pay r a s' t' k d f
twin_step Begin s t r a s' t' hs ht k lv d f = twin_plain _ _ s t Done Done (begun s) (begun t) r a s' t' (begin_same s t k) k refl (alike_begun s t k) d f
twin_step End s t r a s' t' hs ht k lv d f =
    let b = same_inmost s.groups t.groups k.spoilt in
    twin_plain _ _ s t (cond (inmost_spoiled s.groups) Undone Kept) (cond (inmost_spoiled t.groups) Undone Kept) (closed s s.groups (not (inmost_spoiled s.groups))) (closed t t.groups (not (inmost_spoiled t.groups))) r a s' t' (close_same s t k) k
    (ap (λ (v : Bool). cond v Undone Kept) b)
    (subst (λ (v : Bool). Alike (closed s s.groups (not (inmost_spoiled s.groups))) (closed t t.groups (not v))) b (alike_closed s t k (not (inmost_spoiled s.groups)))) d f
twin_step Abandon s t r a s' t' hs ht k lv d f = twin_plain _ _ s t Undone Undone (closed s s.groups false) (closed t t.groups false) r a s' t' (close_same s t k) k refl (alike_closed s t k false) d f
twin_step Tidy s t r a s' t' hs ht k lv d f = twin d.0 d.3 f.0 f.3 refl (record { shapes = tidy_shape s hs d.1 d.2 ∙ k.shapes ∙ sym (tidy_shape t ht f.1 f.2); spoilt = k.spoilt; held = k.held })

-- ---- two ledgers alike, whose net positions agree now and as at each begin
pub record Peers (s t : State) : Type 0 where
  pub good_one : Good s
  pub good_other : Good t
  pub alike : Alike s t
  pub nets : ℕ → ℕ → ℤ
  pub one : Counted nets s
  pub other : Counted nets t

pub peers_level : (s t : State) → Peers s t → Level s t
peers_level s t p m h = p.one.now m h ∙ sym (p.other.now m h)

-- one call, each ledger served by a router of its own: the same answer, and peers again
pub peers_step : (c : Call) (s t : State) (r a : Answer) (s' t' : State) → Peers s t → Does s c r s' → Does t c a t' → (reply r ≡ reply a) × Peers s' t'
peers_step c s t r a s' t' p d e =
    let w = twin_step c s t r a s' t' p.good_one p.good_other p.alike (peers_level s t p) d e in
    let x = step_keeps s c r s' p.good_one d in
    let y = step_keeps t c a t' p.good_other e in
    let v : Event = event c (reply r) in
    let f : Follows v t t' = subst (λ (u : Event). Follows u t t') (ap (event c) (sym w.0)) y.follows in (
      w.0,
      record {
        good_one = x.good;
        good_other = y.good;
        alike = w.1;
        nets = next v p.nets;
        one = counted v p.nets s s' x.follows p.one;
        other = counted v p.nets t t' f p.other;
      },
    )

record Twins (ts us : List Turn) : Type 0 where
  answers : replies ts ≡ replies us
  nets : net_tables ts ≡ net_tables us
  alike : Alike (latest ts) (latest us)
  tallies : (m d : ℕ) → tally m ts d ≡ tally m us d

tally_step : (v w : Event) (m : ℕ) (f g : ℕ → ℤ) → v ≡ w → ((d : ℕ) → f d ≡ g d) → (d : ℕ) → tally_by v m d f ≡ tally_by w m d g
tally_step v w m f g e h d = ap₂ (λ (u : Event) (x : ℕ → ℤ). tally_by u m d x) e (fun_ext h)

-- tables of one function and of another that agrees with it below an end
same_table : (f g : ℕ → ℤ) (a n : ℕ) → ((m : ℕ) → m < a + n → f m ≡ g m) → map f (range_with_len a n) ≡ map g (range_with_len a n)
same_table f g a zero h = refl
same_table f g a (suc n) h = ap₂ (λ (x : ℤ) (xs : List ℤ). x ∷ xs) (h a (omega arith)) (same_table f g (a + 1) n (λ m k. h m (omega arith)))

pub net_table_lem : (ls ks : List Line) → ((m : ℕ) → m < 64 → net m ls ≡ net m ks) → net_table ls ≡ net_table ks
net_table_lem ls ks h = same_table (λ m. net m ls) (λ m. net m ks) 0 64 h

twins : (ts us : List Turn) → Run ts → Run us → calls ts ≡ calls us → Twins ts us
twins [] [] x y h = record { answers = refl; nets = refl; alike = record { shapes = refl; spoilt = refl; held = refl }; tallies = λ m d. refl }
twins [] (f ∷ us) x y h = cc
twins (e ∷ ts) [] x y h = cc
twins (e ∷ ts) (f ∷ us) x y h =
    let c : e.call ≡ f.call = cc in
    let cs : calls ts ≡ calls us = cc in
    let i = twins ts us x.1 y.1 cs in
    let ke = known ts x.1 in
    let kf = known us y.1 in
    let lv : Level (latest ts) (latest us) = λ m b. ke.nets m b ∙ i.tallies m zero ∙ sym (kf.nets m b) in
    let d : Does (latest us) e.call f.answer f.after = subst (λ (c : Call). Does (latest us) c f.answer f.after) (sym c) y.0 in
    let t = twin_step e.call (latest ts) (latest us) e.answer f.answer e.after f.after ke.good kf.good i.alike lv x.0 d in
    let v : event e.call (reply e.answer) ≡ event f.call (reply f.answer) = ap₂ event c t.0 in
    let ta : (m d : ℕ) → tally m (e ∷ ts) d ≡ tally m (f ∷ us) d = λ m d. tally_step (event e.call (reply e.answer)) (event f.call (reply f.answer)) m (tally m ts) (tally m us) v (i.tallies m) d in
    record {
      answers = ap₂ (λ (r : Reply) (rs : List Reply). r ∷ rs) t.0 i.answers;
      nets = ap₂ (λ (r : List ℤ) (rs : List (List ℤ)). r ∷ rs) (net_table_lem e.after.lines f.after.lines (λ m b. (known (e ∷ ts) x).nets m b ∙ ta m zero ∙ sym ((known (f ∷ us) y).nets m b))) i.nets;
      alike = t.1;
      tallies = ta;
    }

pub law : Law
law ts us x y h =
    let t = twins ts us x y h in
    record {
      answers = t.answers;
      nets = t.nets;
      one = record { rooms = decides ts x; tallies = tallied ts x };
      other = record { rooms = decides us y; tallies = tallied us y };
    }
