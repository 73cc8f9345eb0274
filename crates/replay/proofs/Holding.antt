-- What calls do to the standing reservation, and the token that is held for it.
use Rattle.std.proofs.Common.{◌≡◌, ℕ, Bool, true, false, cond, not, eqb, List, [], ◌∷◌, ℤ, is_some, Some, None, Ok, Err, Option, Result, sym, refl, ap, ◌∙◌, subst, subst₂}
use Rattle.credit.specs.declared.payment.Payment.{Payment}
use Rattle.credit.specs.declared.refusal.Refusal.{Refusal}
use Rattle.credit.specs.declared.refusal.Refusal.TheVariants.{BadPlanSheet, NoSuchReservation}
use Rattle.credit.specs.Refusals.{Verdict, passes, check}
use Rattle.calls.specs.declared.call.Call.{Call}
use Rattle.calls.specs.declared.call.Call.TheVariants.{Open, Pay, Reserve, Book, Release, Begin, End, Abandon, Tidy}
use Rattle.calls.specs.declared.call.Answer.{Answer}
use Rattle.calls.specs.declared.call.Answer.TheVariants.{Done, Reserved, Released, Refused}
use Rattle.ledger.specs.declared.reservation.Reservation.{Reservation}
use Rattle.ledger.specs.declared.reservation.Unbooked.{Unbooked}
use Rattle.ledger.specs.Answers.{held_or, booked_or, HandedBack}
use Rattle.ledger.specs.States.{OpenGroup, State, with_standing, with_groups}
use Rattle.ledger.specs.Checks.{inmost_spoiled, matches, pay_checks, book_checks, open_checks, begin_checks, close_checks}
use Rattle.ledger.specs.Calls.{opened, begun, closed, spoils, spoil_inmost, after_refusal, Paid, Pays, Held, Reserves, Books, Plain, Does}
use Rattle.ledger.proofs.Steps.{pay_checked, matched}
use Rattle.replay.specs.declared.tokens.Served.{Served}
use Rattle.replay.specs.Tokens.{places_of, on_sheet, Genuine, Serves}

-- ---- a sheet counts by whether it has 256 places
sheet_does : (s : State) (c : Call) (k : ℕ) (r : Answer) (s' : State) → eqb k 256 ≡ eqb (places_of c) 256 → Does s (on_sheet c k) r s' → Does s c r s'
sheet_does s (Open x y t u) k r s' e d = d
sheet_does s (Pay j pay) k r s' e d = subst (λ (b : Bool). Pays (check (not b) BadPlanSheet (pay_checks s 256 pay)) s pay r s') e d
sheet_does s (Reserve j pay) k r s' e d = subst (λ (b : Bool). Reserves (check (not b) BadPlanSheet (pay_checks s 256 pay)) s pay r s') e d
sheet_does s (Book j pay) k r s' e d = subst (λ (b : Bool). Books (check (not b) BadPlanSheet (book_checks s 256 pay)) s pay r s') e d
sheet_does s (Release pay) k r s' e d = d
sheet_does s Begin k r s' e d = d
sheet_does s End k r s' e d = d
sheet_does s Abandon k r s' e d = d
sheet_does s Tidy k r s' e d = d

pub sheet_serves : (s : State) (c : Call) (k : ℕ) (r : Served) (s' : State) → eqb k 256 ≡ eqb (places_of c) 256 → Serves s (on_sheet c k) r s' → Serves s c r s'
sheet_serves s c k r s' e d = record { does = sheet_does s c k r.answer s' e d.does; genuine = d.genuine }

-- ---- calls that leave the standing reservation alone
plain_stands : (v : Verdict) (s : State) (a : Answer) (t : State) (r : Answer) (s' : State) → t.standing ≡ s.standing → Plain v s a t r s' → s'.standing ≡ s.standing
plain_stands (Ok u) s a t r s' e d = ap (λ (x : State). x.standing) d.1 ∙ e
plain_stands (Err x) s a t r s' e d = ap (λ (x : State). x.standing) d.1

refused_stands : (e : Refusal) (s : State) → (after_refusal e s).standing ≡ s.standing
refused_stands e s = go (spoils e)
  where
    go : (b : Bool) → (cond b (with_groups s (spoil_inmost s.groups)) s).standing ≡ s.standing
    go true = refl
    go false = refl

closed_stands : (s : State) (gs : List OpenGroup) (keep : Bool) → (closed s gs keep).standing ≡ s.standing
closed_stands s [] keep = refl
closed_stands s (g ∷ gs) keep = refl

pay_stands : (s : State) (k : ℕ) (pay : Payment) (r : Answer) (s' : State) → Does s (Pay k pay) r s' → s'.standing ≡ s.standing
pay_stands s k pay r s' d = go (pay_checks s k pay) d
  where
    by : (v : Verdict) (plan : List ℤ) → Paid v plan s r s' → s'.standing ≡ s.standing
    by (Ok u) plan t = ap (λ (x : State). x.standing) t.1
    by (Err e) plan t = ap (λ (x : State). x.standing) t.1 ∙ refused_stands e s

    go : (v : Verdict) → Pays v s pay r s' → s'.standing ≡ s.standing
    go (Ok u) d = by d.0 d.1 d.3
    go (Err e) d = ap (λ (x : State). x.standing) d.1 ∙ refused_stands e s

-- the calls that no token has a part in
abbrev pub tokenless : Call → Bool
tokenless (Open x y t u) = true
tokenless (Pay k pay) = true
tokenless (Reserve k pay) = false
tokenless (Book k pay) = false
tokenless (Release pay) = false
tokenless Begin = true
tokenless End = true
tokenless Abandon = true
tokenless Tidy = true

pub still_stands : (s : State) (c : Call) (r : Answer) (s' : State) → tokenless c ≡ true → Does s c r s' → s'.standing ≡ s.standing
still_stands s (Open x y t u) r s' e d = plain_stands (open_checks s x y t u) s Done (opened s x y t u) r s' refl d
still_stands s (Pay k pay) r s' e d = pay_stands s k pay r s' d
still_stands s (Reserve k pay) r s' e d = cc
still_stands s (Book k pay) r s' e d = cc
still_stands s (Release pay) r s' e d = cc
still_stands s Begin r s' e d = plain_stands (begin_checks s) s Done (begun s) r s' refl d
still_stands s End r s' e d = plain_stands (close_checks s) s _ _ r s' (closed_stands s s.groups (not (inmost_spoiled s.groups))) d
still_stands s Abandon r s' e d = plain_stands (close_checks s) s _ _ r s' (closed_stands s s.groups false) d
still_stands s Tidy r s' e d = ap (λ (x : State). x.standing) d.3

pub served_still : (s : State) (c : Call) (r : Answer) (s' : State) (held : Option Reservation) → Genuine held s → tokenless c ≡ true → Does s c r s' → Serves s c (record { answer = r; held = held }) s'
served_still s c r s' held g e d = record { does = d; genuine = still_stands s c r s' e d ∙ g }

-- ---- reserve
pub reserve_refused : (s : State) (k : ℕ) (pay : Payment) (e : Refusal) (s' : State) → Does s (Reserve k pay) (Refused e) s' → s' ≡ s
reserve_refused s k pay e s' d = go (pay_checks s k pay) d
  where
    by : (v : Verdict) → Held v pay s (Refused e) s' → s' ≡ s
    by (Ok u) t = cc
    by (Err x) t = t.1

    go : (v : Verdict) → Reserves v s pay (Refused e) s' → s' ≡ s
    go (Ok u) d = by d.0 d.3
    go (Err x) d = d.1

-- an accepted reservation: none stood, and it is for the payment that was asked for
pub record Accepted (s : State) (pay x : Payment) (s' : State) : Type 0 where
  pub vacant : is_some s.standing ≡ false
  pub same : x ≡ pay
  pub now : s'.standing ≡ Some pay

pub reserve_accepted : (s : State) (k : ℕ) (pay x : Payment) (s' : State) → Does s (Reserve k pay) (Reserved x) s' → Accepted s pay x s'
reserve_accepted s k pay x s' d = go (pay_checks s k pay) refl d
  where
    by : (v : Verdict) → pay_checks s k pay ≡ passes → Held v pay s (Reserved x) s' → Accepted s pay x s'
    by (Ok u) h t = let e : x ≡ pay = cc in record { vacant = (pay_checked s k pay h).0; same = e; now = ap (λ (v : State). v.standing) t.1 }
    by (Err e) h t = cc

    go : (v : Verdict) → pay_checks s k pay ≡ v → Reserves v s pay (Reserved x) s' → Accepted s pay x s'
    go (Ok u) h d = by d.0 h d.3
    go (Err e) h d = cc

-- ---- book
pub book_refused : (s : State) (k : ℕ) (pay : Payment) (e : Refusal) (s' : State) → Does s (Book k pay) (Refused e) s' → s' ≡ s
book_refused s k pay e s' d = go (book_checks s k pay) d
  where
    go : (v : Verdict) → Books v s pay (Refused e) s' → s' ≡ s
    go (Ok u) d = cc
    go (Err x) d = d.1

pub book_done : (s : State) (k : ℕ) (pay : Payment) (s' : State) → Does s (Book k pay) Done s' → s'.standing ≡ None
book_done s k pay s' d = go (book_checks s k pay) d
  where
    go : (v : Verdict) → Books v s pay Done s' → s'.standing ≡ None
    go (Ok u) d = ap (λ (v : State). v.standing) d.3
    go (Err x) d = cc

-- a booking of what does not stand
pub book_none : (s : State) (k : ℕ) (pay : Payment) (e : Refusal) → matches s.standing pay ≡ false → Err e ≡ check (not (eqb k 256)) BadPlanSheet (Err NoSuchReservation) → Does s (Book k pay) (Refused e) s
book_none s k pay e h f = subst (λ (v : Verdict). Books v s pay (Refused e) s) (f ∙ ap (λ (b : Bool). check (not (eqb k 256)) BadPlanSheet (check (not b) NoSuchReservation passes)) (sym h)) (refl, refl)

-- ---- release
pub release_standing : (s : State) (pay : Payment) (b : Bool) (s' : State) → matches s.standing pay ≡ true → Does s (Release pay) (Released b) s' → s'.standing ≡ None
release_standing s pay b s' h d = ap (λ (v : State). v.standing) (d.1 ∙ ap (λ (t : Bool). cond t (with_standing s None) s) h)

pub release_none : (s : State) (pay : Payment) → matches s.standing pay ≡ false → Does s (Release pay) (Released false) s
release_none s pay h = (ap Released (sym h), sym (ap (λ (t : Bool). cond t (with_standing s None) s) h))

-- ---- what is served, by what the ledger returned
pub reserve_declined : (s : State) (k : ℕ) (pay : Payment) (r : Result Reservation Refusal) (e : Refusal) (held : Option Reservation) (s' : State) → Genuine held s → r ≡ Err e → Does s (Reserve k pay) (held_or r) s' → Serves s (Reserve k pay) (record { answer = Refused e; held = held }) s'
reserve_declined s k pay r e held s' g i d =
    let f : Does s (Reserve k pay) (Refused e) s' = subst (λ (v : Result Reservation Refusal). Does s (Reserve k pay) (held_or v) s') i d in
    record { does = f; genuine = subst (Genuine held) (sym (reserve_refused s k pay e s' f)) g }

pub reserve_held : (s : State) (k : ℕ) (pay : Payment) (r : Result Reservation Refusal) (v : Reservation) (s' : State) → r ≡ Ok v → Does s (Reserve k pay) (held_or r) s' → Serves s (Reserve k pay) (record { answer = Reserved pay; held = Some v }) s'
reserve_held s k pay r v s' i d =
    let f : Does s (Reserve k pay) (Reserved v.payment) s' = subst (λ (w : Result Reservation Refusal). Does s (Reserve k pay) (held_or w) s') i d in
    let a = reserve_accepted s k pay v.payment s' f in
    record { does = subst (λ (x : Payment). Does s (Reserve k pay) (Reserved x) s') a.same f; genuine = a.now ∙ ap Some (sym a.same) }

pub book_declined : (s : State) (k : ℕ) (v : Reservation) (r : Result (Unit {0}) Unbooked) (f : Unbooked) (s' : State) → Genuine (Some v) s → r ≡ Err f → HandedBack v r → Does s (Book k v.payment) (booked_or r) s' → Serves s (Book k v.payment) (record { answer = Refused f.refusal; held = Some f.reservation }) s'
book_declined s k v r f s' g i b d =
    let o : Does s (Book k v.payment) (Refused f.refusal) s' = subst (λ (x : Result (Unit {0}) Unbooked). Does s (Book k v.payment) (booked_or x) s') i d in
    let back : f.reservation ≡ v = subst (HandedBack v) i b in
    let m = book_refused s k v.payment f.refusal s' o in
    record { does = o; genuine = subst₂ (λ (w : Reservation) (t : State). Genuine (Some w) t) (sym back) (sym m) g }

-- the token whose payment was sought
pub book_sought : (s : State) (k : ℕ) (v : Reservation) (pay : Payment) (r : Served) (s' : State) → matches (Some v.payment) pay ≡ true → Serves s (Book k v.payment) r s' → Serves s (Book k pay) r s'
book_sought s k v pay r s' m d = subst (λ (x : Payment). Serves s (Book k x) r s') (matched v.payment pay m) d

-- a call that no token has a part in, as the ledger answered it
pub served_quietly : (s : State) (c d : Call) (r a : Answer) (s' : State) (held : Option Reservation) → Genuine held s → c ≡ d → tokenless d ≡ true → r ≡ a → Does s d a s' → Serves s c (record { answer = r; held = held }) s'
served_quietly s c d r a s' held g i e j o = subst₂ (λ (x : Call) (y : Answer). Serves s x (record { answer = y; held = held }) s') (sym i) (sym j) (served_still s d a s' held g e o)
