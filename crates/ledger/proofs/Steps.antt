-- What passing the checks tells, and what a router's answer to the ledger tells.
use Rattle.std.proofs.Common.{◌≡◌, ℕ, ◌^◌, ◌<◌, ◌≤◌, Bool, true, false, not, ◌&&◌, eqb, ltb, leb, ◌≢◌, List, length, ℤ, ◌+ℤ◌, ◌-ℤ◌, ◌≤ℤ◌, ◌<ℤ◌, is_some, Some, None, Ok, Err, Option, sym, refl, ap, ◌∙◌, subst, ap₂, arith}
use lib.Signed.{le_z}
use Rattle.std.proofs.lemmas.Int.{ints}
use Rattle.std.proofs.lemmas.Bool.{and_parts, and_from, ltb-true, le-leb, not-false, not-true, eqb-true, eqb-false}
use Rattle.members.specs.declared.group.Group.{Group}
use Rattle.members.specs.Groups.{inside}
use Rattle.credit.specs.declared.line.Line.{Line}
use Rattle.credit.specs.declared.payment.Payment.{Payment}
use Rattle.credit.specs.declared.refusal.Refusal.{Refusal}
use Rattle.credit.specs.declared.refusal.Refusal.TheVariants.{NoSuchMember, SameMember, OutOfRange, ReservationStands, Spoiled, NoSuchReservation, WantOfRoom, BadPlanSheet}
use Rattle.credit.specs.Refusals.{Verdict, passes, check}
use Rattle.credit.specs.Sums.{only, every}
use Rattle.credit.specs.Net.{net, bounded}
use Rattle.credit.specs.Rooms.{room}
use Rattle.credit.specs.Plans.{booked, fits}
use Rattle.credit.proofs.Tables.{refused_passes, check_passes}
use Rattle.credit.proofs.Rooms.{ends_bounded, flow_net, weak_duality}
use Rattle.credit.proofs.Bounds.{le_z_order, le_z_test}
use Rattle.routing.specs.Meaning.{not_members, not_amount, payment_checks, usable, router_checks, Routed, Finds, Unless, Routes}
use Rattle.ledger.specs.Sound.{proper, strained}
use Rattle.ledger.specs.States.{State}
use Rattle.ledger.specs.Checks.{inmost_spoiled, eq_z, matches, pay_checks, book_checks}
use Rattle.ledger.specs.Calls.{blank}
use Rattle.ledger.proofs.Shapes.{booked_blank, length_blank, fits_blank}

-- ---- checks
pub check_skip : (t : Bool) (e : Refusal) (v : Verdict) → t ≡ false → v ≡ passes → check t e v ≡ passes
check_skip true e v h k = cc
check_skip false e v h k = k

-- what the checks on payer, payee and amount leave
pub record Checked (pay : Payment) : Type 0 where
  pub ends_ok : not_members pay.payer pay.payee ≡ false
  pub apart_ok : eqb pay.payer pay.payee ≡ false
  pub amount_ok : not_amount pay.amount ≡ false

pub payment_passes : (pay : Payment) (rest : Verdict) → payment_checks pay rest ≡ passes → Checked pay
payment_passes pay rest h =
    let a = check_passes (not_members pay.payer pay.payee) NoSuchMember _ h in
    let b = check_passes (eqb pay.payer pay.payee) SameMember _ a.1 in
    let c = check_passes (not_amount pay.amount) OutOfRange rest b.1 in
    record { ends_ok = a.0; apart_ok = b.0; amount_ok = c.0 }

pub payment_skip : (pay : Payment) (rest : Verdict) → Checked pay → rest ≡ passes → payment_checks pay rest ≡ passes
payment_skip pay rest c k =
    check_skip (not_members pay.payer pay.payee) NoSuchMember _ c.ends_ok
    (check_skip (eqb pay.payer pay.payee) SameMember _ c.apart_ok
    (check_skip (not_amount pay.amount) OutOfRange rest c.amount_ok k))

pub pay_checked : (s : State) (k : ℕ) (pay : Payment) → pay_checks s k pay ≡ passes → (is_some s.standing ≡ false) × Checked pay
pay_checked s k pay h =
    let a = check_passes (not (eqb k 256)) BadPlanSheet _ h in
    let b = check_passes (is_some s.standing) ReservationStands _ a.1 in
    let c = check_passes (inmost_spoiled s.groups) Spoiled _ b.1 in
    (b.0, payment_passes pay passes c.1)

pub book_matched : (s : State) (k : ℕ) (pay : Payment) → book_checks s k pay ≡ passes → matches s.standing pay ≡ true
book_matched s k pay h =
    let a = check_passes (not (eqb k 256)) BadPlanSheet _ h in
    not-false (matches s.standing pay) (check_passes (not (matches s.standing pay)) NoSuchReservation passes a.1).0

-- payer and payee are two members
pub record Pair (pay : Payment) : Type 0 where
  pub payer : pay.payer < 64
  pub payee : pay.payee < 64
  pub apart : pay.payer ≢ pay.payee

pub pair : (pay : Payment) → Checked pay → Pair pay
pair pay c =
    let h = and_parts (ltb pay.payer 64) (ltb pay.payee 64) (not-false (ltb pay.payer 64 && ltb pay.payee 64) c.ends_ok) in
    record { payer = ltb-true pay.payer 64 h.0; payee = ltb-true pay.payee 64 h.1; apart = eqb-false pay.payer pay.payee c.apart_ok }

-- ---- a router's answer
pub routed_checked : (ls : List Line) (pay : Payment) (entry exit : List ℤ) → Routes ls pay entry passes exit → Checked pay × Routed ls pay entry exit
routed_checked ls pay entry exit d = go (router_checks ls pay entry) refl d
  where
    go : (v : Verdict) → router_checks ls pay entry ≡ v → Unless v ls pay entry passes exit → Checked pay × Routed ls pay entry exit
    go (Ok u) h d = (payment_passes pay _ h, d)
    go (Err e) h d = refused_passes e (sym d.0)

-- what was routed was found, and past the checks
pub routed_tells : (ls : List Line) (pay : Payment) (entry exit : List ℤ) → Routes ls pay entry passes exit → Pair pay × Routed ls pay entry exit
routed_tells ls pay entry exit d = let r = routed_checked ls pay entry exit d in (pair pay r.0, r.1)

-- the ledger's lines and a blank sheet pass a router's checks
pub router_passes : (ls : List Line) (pay : Payment) → every bounded ls ≡ true → length ls ≤ 256 → Checked pay → router_checks ls pay blank ≡ passes
router_passes ls pay b few c = payment_skip pay _ c (check_skip (not (usable ls blank)) BadPlanSheet passes (ap not sheet) refl)
  where
    sheet : usable ls blank ≡ true
    sheet =
        and_from (leb (length ls) 256) (every bounded ls && (leb (length ls) (length blank) && fits ls blank)) (le-leb (length ls) 256 few)
        (and_from (every bounded ls) (leb (length ls) (length blank) && fits ls blank) b
        (and_from (leb (length ls) (length blank)) (fits ls blank) (le-leb (length ls) (length blank) (omega (arith, length_blank))) (fits_blank ls b)))

pub found : (ls : List Line) (pay : Payment) (v : Verdict) (plan : List ℤ) → every bounded ls ≡ true → length ls ≤ 256 → Checked pay → Routes ls pay blank v plan → Finds ls pay blank v plan
found ls pay v plan b few c d = subst (λ (w : Verdict). Unless w ls pay blank v plan) (router_passes ls pay b few c) d

-- a group that the lines leave too little room
pub record Tightened (ls : List Line) (pay : Payment) (e : Refusal) : Type 0 where
  pub group : Group
  pub room_of : ℤ
  pub named : e ≡ WantOfRoom group room_of
  pub word : group.bits < 2 ^ 64
  pub payer : inside group.bits pay.payer ≡ true
  pub payee : inside group.bits pay.payee ≡ false
  pub less : room group.bits ls <ℤ pay.amount

-- a router refuses the ledger nothing but for want of room
pub refused_tells : (ls : List Line) (pay : Payment) (e : Refusal) (plan : List ℤ) → every bounded ls ≡ true → length ls ≤ 256 → Checked pay → Routes ls pay blank (Err e) plan → Tightened ls pay e
refused_tells ls pay e plan b few c d =
    let f = found ls pay (Err e) plan b few c d in
    let t = f.3 in
    record {
      group = f.0;
      room_of = f.1;
      named = f.2;
      word = t.word;
      payer = t.payer;
      payee = t.payee;
      less = subst (λ (v : ℤ). v <ℤ pay.amount) (t.has ∙ ap (room f.0.bits) (booked_blank ls)) t.less;
    }

-- a routed payment costs the payer and brings to the payee
pub routed_net : (ls : List Line) (pay : Payment) (plan : List ℤ) → Routes ls pay blank passes plan → (m : ℕ) → net m (booked ls plan) ≡ (net m ls -ℤ only (eqb m pay.payer) pay.amount) +ℤ only (eqb m pay.payee) pay.amount
routed_net ls pay plan d m =
    flow_net ls pay.payer pay.payee pay.amount blank plan (routed_tells ls pay blank plan d).1.flow m
    ∙ ap (λ (v : List Line). (net m v -ℤ only (eqb m pay.payer) pay.amount) +ℤ only (eqb m pay.payee) pay.amount) (booked_blank ls)

-- a routed amount fits each group between payer and payee
pub routed_fits : (ls : List Line) (pay : Payment) (plan : List ℤ) → every bounded ls ≡ true → Routes ls pay blank passes plan → (g : ℕ) → inside g pay.payer ≡ true → inside g pay.payee ≡ false → pay.amount ≤ℤ room g ls
routed_fits ls pay plan b d g ip iq =
    let t = routed_tells ls pay blank plan d in
    let w : pay.amount ≤ℤ room g (booked ls blank) = weak_duality ls pay.payer pay.payee pay.amount blank plan (ends_bounded ls b) t.0.payer t.0.payee t.1.flow t.1.fit g ip iq in
    subst (λ (v : List Line). pay.amount ≤ℤ room g v) (booked_blank ls) w

-- ---- the standing reservation
pub unstrained_none : (st : Option Payment) (g : ℕ) (ls : List Line) → is_some st ≡ false → strained st g ls ≡ false
unstrained_none None g ls e = refl
unstrained_none (Some pay) g ls e = cc

pub unstrained_alike : (st : Option Payment) (g : ℕ) (ls ks : List Line) → room g ls ≡ room g ks → strained st g ls ≡ false → strained st g ks ≡ false
unstrained_alike None g ls ks e f = refl
unstrained_alike (Some pay) g ls ks e f = ap (λ (v : ℤ). inside g pay.payer && (not (inside g pay.payee) && not (le_z pay.amount v))) (sym e) ∙ f

-- a routed reservation has its room in every group
pub unstrained_routed : (ls : List Line) (pay : Payment) (plan : List ℤ) → every bounded ls ≡ true → Routes ls pay blank passes plan → (g : ℕ) → strained (Some pay) g ls ≡ false
unstrained_routed ls pay plan b d g = go (inside g pay.payer) (inside g pay.payee) refl refl
  where
    go : (x y : Bool) → inside g pay.payer ≡ x → inside g pay.payee ≡ y → (x && (not y && not (le_z pay.amount (room g ls)))) ≡ false
    go true true e f = refl
    go true false e f = ap not (le_z_test pay.amount (room g ls) (routed_fits ls pay plan b d g e f))
    go false y e f = refl

pub proper_checked : (pay : Payment) → Checked pay → proper (Some pay) ≡ true
proper_checked pay c =
    and_from (not (not_members pay.payer pay.payee)) (not (eqb pay.payer pay.payee) && not (not_amount pay.amount)) (ap not c.ends_ok)
    (and_from (not (eqb pay.payer pay.payee)) (not (not_amount pay.amount)) (ap not c.apart_ok) (ap not c.amount_ok))

checked_proper : (pay : Payment) → proper (Some pay) ≡ true → Checked pay
checked_proper pay ok =
    let h = and_parts (not (not_members pay.payer pay.payee)) (not (eqb pay.payer pay.payee) && not (not_amount pay.amount)) ok in
    let i = and_parts (not (eqb pay.payer pay.payee)) (not (not_amount pay.amount)) h.1 in
    record { ends_ok = not-true (not_members pay.payer pay.payee) h.0; apart_ok = not-true (eqb pay.payer pay.payee) i.0; amount_ok = not-true (not_amount pay.amount) i.1 }

abbrev of_three : ℕ → ℕ → ℤ → Payment
of_three p q n = record { payer = p; payee = q; amount = n }

-- the payment that stands is the one that matches
pub matched : (x pay : Payment) → matches (Some x) pay ≡ true → x ≡ pay
matched x pay m =
    let h = and_parts (eqb x.payer pay.payer) (eqb x.payee pay.payee && eq_z x.amount pay.amount) m in
    let i = and_parts (eqb x.payee pay.payee) (eq_z x.amount pay.amount) h.1 in
    let j = and_parts (le_z x.amount pay.amount) (le_z pay.amount x.amount) i.1 in
    let c : x.amount ≡ pay.amount = omega (arith, ints, j) in
    ap₂ (λ (p q : ℕ). of_three p q x.amount) (eqb-true x.payer pay.payer h.0) (eqb-true x.payee pay.payee i.0) ∙ ap (of_three pay.payer pay.payee) c

-- a booking past its checks never lacks room, and its router never refuses
pub book_routed : (ls : List Line) (st : Option Payment) (pay : Payment) → every bounded ls ≡ true → length ls ≤ 256 → proper st ≡ true → ((g : ℕ) → strained st g ls ≡ false) → matches st pay ≡ true → (v : Verdict) (plan : List ℤ) → Routes ls pay blank v plan → v ≡ passes
book_routed ls None pay b few ok fit m v plan d = cc
book_routed ls (Some x) pay b few ok fit m v plan d = go v d
  where
    go : (v : Verdict) → Routes ls pay blank v plan → v ≡ passes
    go (Ok u) d = refl
    go (Err e) d =
        let it = matched x pay m in
        let t = refused_tells ls pay e plan b few (checked_proper pay (subst (λ (c : Payment). proper (Some c) ≡ true) it ok)) d in
        let k = subst (λ (c : Payment). strained (Some c) t.group.bits ls ≡ false) it (fit t.group.bits) in
        let f : not (le_z pay.amount (room t.group.bits ls)) ≡ false = sym (rw (t.payer, t.payee) refl) ∙ k in
        absurd (omega (arith, ints, le_z_order pay.amount (room t.group.bits ls) (not-false (le_z pay.amount (room t.group.bits ls)) f), t.less))
