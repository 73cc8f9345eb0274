-- The worked sums.
use Rattle.std.proofs.Common.{◌≡◌, ℕ, zero, suc, ◌≤◌, Bool, true, false, eqb, List, [], ◌∷◌, length, replicate, ℤ, pos, ◌-ℤ◌, neg_ℤ, ◌≤ℤ◌, ◌<ℤ◌, None, Ok, Err, refl, ap, ◌∙◌, subst, ap₂, arith}
use Rattle.std.proofs.lemmas.Int.{ints}
use Rattle.members.specs.Groups.{inside}
use Rattle.credit.specs.declared.payment.Payment.{Payment}
use Rattle.credit.specs.declared.refusal.Refusal.{Refusal}
use Rattle.credit.specs.Refusals.{Verdict, passes, number_of}
use Rattle.credit.specs.Sums.{only, every}
use Rattle.credit.specs.Net.{bounded}
use Rattle.credit.specs.Rooms.{room}
use Rattle.credit.specs.Plans.{booked, sent, Flow, fits}
use Rattle.credit.proofs.Rooms.{ends_bounded, weak_duality}
use Rattle.routing.specs.Meaning.{Routed, Routes}
use Rattle.calls.specs.declared.call.Call.{Call}
use Rattle.calls.specs.declared.call.Call.TheVariants.{Open, Pay, Begin}
use Rattle.calls.specs.declared.call.Answer.{Answer}
use Rattle.calls.specs.declared.call.Answer.TheVariants.{Done}
use Rattle.ledger.specs.States.{State, fresh, with_lines}
use Rattle.ledger.specs.Checks.{pay_checks, begin_checks}
use Rattle.ledger.specs.Calls.{blank, begun, Paid, Pays, Plain, Does}
use Rattle.ledger.proofs.Shapes.{booked_blank, length_blank}
use Rattle.ledger.proofs.Steps.{pay_checked, pair, routed_tells, refused_tells, routed_fits}
use Rattle.replay.specs.Runs.{Turn, latest, Run, calls, Reply, done, refused, reply, replies}
use Rattle.replay.specs.Sums.{Gives, network, due, pay, Sums}
use Rattle.replay.proofs.Rounds.{tidied}

-- ---- runs over given calls
-- every run over these calls ends in a state of this kind, with these answers
abbrev EndsIn : List Call → (State → Type 0) → List Reply → Type 0
EndsIn cs P rs = (ts : List Turn) → Run ts → calls ts ≡ cs → P (latest ts) × (replies ts ≡ rs)

nothing : EndsIn [] (λ s. s ≡ fresh) []
nothing [] x h = (refl, refl)
nothing (t ∷ ts) x h = cc

-- one call more
further : (c : Call) (cs : List Call) (P Q : State → Type 0) (r : Reply) (rs : List Reply) → ((s : State) (a : Answer) (s' : State) → P s → Does s c a s' → Q s' × (reply a ≡ r)) → EndsIn cs P rs → EndsIn (c ∷ cs) Q (r ∷ rs)
further c cs P Q r rs f k [] x h = cc
further c cs P Q r rs f k (t ∷ ts) x h =
    let e : t.call ≡ c = cc in
    let es : calls ts ≡ cs = cc in
    let i = k ts x.1 es in
    let d : Does (latest ts) c t.answer t.after = subst (λ (v : Call). Does (latest ts) v t.answer t.after) e x.0 in
    let j = f (latest ts) t.answer t.after i.0 d in
    (j.0, ap₂ (λ (y : Reply) (ys : List Reply). y ∷ ys) j.1 i.1)

-- from one state to another
steadily : (c : Call) (cs : List Call) (s t : State) (r : Reply) (rs : List Reply) → ((a : Answer) (s' : State) → Does s c a s' → (s' ≡ t) × (reply a ≡ r)) → EndsIn cs (λ v. v ≡ s) rs → EndsIn (c ∷ cs) (λ v. v ≡ t) (r ∷ rs)
steadily c cs s t r rs f k = further c cs (λ v. v ≡ s) (λ v. v ≡ t) r rs (λ v a s' e d. f a s' (subst (λ (w : State). Does w c a s') e d)) k

-- ---- payments
pay_fits : (s : State) (due : Payment) (plan : List ℤ) (a : Answer) (s' : State) → every bounded s.lines ≡ true → length s.lines ≤ 256 → pay_checks s 256 due ≡ passes → Flow s.lines due.payer due.payee due.amount blank plan → fits s.lines plan ≡ true → Does s (Pay 256 due) a s' → (reply a ≡ done) × (x : List ℤ) × Routed s.lines due blank x × (s' ≡ with_lines s (booked s.lines x))
pay_fits s due plan a s' b few h f t d = let e = subst (λ (v : Verdict). Pays v s due a s') h d in go e.0 e.1 e.2 e.3
  where
    go : (v : Verdict) (x : List ℤ) → Routes s.lines due blank v x → Paid v x s a s' → (reply a ≡ done) × (x : List ℤ) × Routed s.lines due blank x × (s' ≡ with_lines s (booked s.lines x))
    go (Ok u) x y z = (ap reply z.0, x, (routed_tells s.lines due blank x y).1, z.1)
    go (Err e) x y z =
        let c = (pay_checked s 256 due h).1 in
        let ends = pair due c in
        let k = refused_tells s.lines due e x b few c y in
        let w : due.amount ≤ℤ room k.group.bits (booked s.lines blank) = weak_duality s.lines due.payer due.payee due.amount blank plan (ends_bounded s.lines b) ends.payer ends.payee f t k.group.bits k.payer k.payee in
        absurd (omega (arith, ints, w, ap (room k.group.bits) (booked_blank s.lines), k.less))

pay_lacks : (s : State) (due : Payment) (g : ℕ) (a : Answer) (s' : State) → every bounded s.lines ≡ true → length s.lines ≤ 256 → pay_checks s 256 due ≡ passes → inside g due.payer ≡ true → inside g due.payee ≡ false → room g s.lines <ℤ due.amount → Does s (Pay 256 due) a s' → reply a ≡ refused 16
pay_lacks s due g a s' b few h ip iq less d = let e = subst (λ (v : Verdict). Pays v s due a s') h d in go e.0 e.1 e.2 e.3
  where
    go : (v : Verdict) (x : List ℤ) → Routes s.lines due blank v x → Paid v x s a s' → reply a ≡ refused 16
    go (Ok u) x y z = absurd (omega (arith, ints, routed_fits s.lines due x b y g ip iq, less))
    go (Err e) x y z = ap reply z.0 ∙ ap (λ (r : Refusal). refused (number_of r)) (refused_tells s.lines due e x b few (pay_checked s 256 due h).1 y).named

-- ---- the network
-- its two lines with debts d and e
abbrev net_with : ℤ → ℤ → State
net_with d e = record { lines = record { a = 1; b = 2; trust_a = pos 50; trust_b = pos 30; debt = d } ∷ record { a = 2; b = 3; trust_a = pos 20; trust_b = pos 40; debt = e } ∷ []; groups = []; standing = None }

abbrev first_line : State
first_line = record { lines = record { a = 1; b = 2; trust_a = pos 50; trust_b = pos 30; debt = pos 0 } ∷ []; groups = []; standing = None }

on_network : EndsIn network (λ s. s ≡ net_with (pos 0) (pos 0)) (done ∷ done ∷ [])
on_network =
    steadily (Open 2 3 (pos 20) (pos 40)) (Open 1 2 (pos 50) (pos 30) ∷ []) first_line (net_with (pos 0) (pos 0)) done (done ∷ []) (λ a s' d. (d.1, ap reply d.0))
    (steadily (Open 1 2 (pos 50) (pos 30)) [] fresh first_line done [] (λ a s' d. (d.1, ap reply d.0)) nothing)

only_nought : (b : Bool) → only b (pos 0) ≡ pos 0
only_nought true = refl
only_nought false = refl

only_less : (b : Bool) (x : ℤ) → only b (neg_ℤ x) ≡ neg_ℤ (only b x)
only_less true x = refl
only_less false x = refl

sent_blank : (d e : ℤ) (m : ℕ) → sent m (net_with d e).lines blank ≡ pos 0
unfolding blank
sent_blank d e m = omega (arith, ints, only_nought (eqb m 1), only_nought (eqb m 2), only_nought (eqb m 3))

-- a flow from 1 to 3 is the same on both lines
onward : (d e x : ℤ) → Flow (net_with d e).lines 1 3 x blank (x ∷ x ∷ [])
onward d e x m = omega (arith, ints, sent_blank d e m)

back : (d e x : ℤ) → Flow (net_with d e).lines 3 1 x blank (neg_ℤ x ∷ neg_ℤ x ∷ [])
back d e x m = omega (arith, ints, sent_blank d e m, only_less (eqb m 1) x, only_less (eqb m 2) x, only_less (eqb m 3) x)

-- and no other is
forced : (d e x : ℤ) (plan : List ℤ) → Routed (net_with d e).lines (record { payer = 1; payee = 3; amount = x }) blank plan → booked (net_with d e).lines plan ≡ (net_with (d -ℤ x) (e -ℤ x)).lines
forced d e x [] r = absurd (omega (arith, r.long, length_blank))
forced d e x (y ∷ []) r = absurd (omega (arith, r.long, length_blank))
forced d e x (y ∷ (z ∷ plan)) r =
    let first : y ≡ x = omega (arith, ints, r.flow 1, sent_blank d e 1) in
    let second : z ≡ x = omega (arith, ints, r.flow 3, sent_blank d e 3) in
    ap₂ (λ (v w : ℤ). (net_with (d -ℤ v) (e -ℤ w)).lines) first second

after30 : EndsIn (pay 1 3 30 ∷ network) (λ s. s ≡ net_with (neg_ℤ (pos 30)) (neg_ℤ (pos 30))) (done ∷ done ∷ done ∷ [])
after30 = steadily (pay 1 3 30) network (net_with (pos 0) (pos 0)) (net_with (neg_ℤ (pos 30)) (neg_ℤ (pos 30))) done (done ∷ done ∷ []) by on_network
  where
    by : (a : Answer) (s' : State) → Does (net_with (pos 0) (pos 0)) (pay 1 3 30) a s' → (s' ≡ net_with (neg_ℤ (pos 30)) (neg_ℤ (pos 30))) × (reply a ≡ done)
    by a s' d =
        let f = pay_fits (net_with (pos 0) (pos 0)) (due 1 3 30) (pos 30 ∷ pos 30 ∷ []) a s' refl (omega arith) refl (onward (pos 0) (pos 0) (pos 30)) refl d in
        (f.3 ∙ ap (with_lines (net_with (pos 0) (pos 0))) (forced (pos 0) (pos 0) (pos 30) f.1 f.2), f.0)

-- a payment that lacks room after a state
lacking : (cs : List Call) (d e : ℤ) (rs : List Reply) (p q n g : ℕ) → every bounded (net_with d e).lines ≡ true → pay_checks (net_with d e) 256 (due p q n) ≡ passes → inside g p ≡ true → inside g q ≡ false → room g (net_with d e).lines <ℤ pos n → EndsIn cs (λ s. s ≡ net_with d e) rs → Gives (pay p q n ∷ cs) (refused 16 ∷ rs)
lacking cs d e rs p q n g b h ip iq less k ts x c =
    (further (pay p q n) cs (λ s. s ≡ net_with d e) (λ s. Unit {0}) (refused 16) rs
    (λ s a s' i t. (tt, pay_lacks (net_with d e) (due p q n) g a s' b (omega arith) h ip iq less (subst (λ (w : State). Does w (pay p q n) a s') i t))) k ts x c).1

-- a payment that is refused before a router is asked
refusing : (c : Call) (cs : List Call) (s : State) (r : Reply) (rs : List Reply) → ((a : Answer) (s' : State) → Does s c a s' → reply a ≡ r) → EndsIn cs (λ v. v ≡ s) rs → Gives (c ∷ cs) (r ∷ rs)
refusing c cs s r rs f k ts x h =
    (further c cs (λ v. v ≡ s) (λ v. Unit {0}) r rs (λ v a s' e d. (tt, f a s' (subst (λ (w : State). Does w c a s') e d))) k ts x h).1

short : Gives (pay 1 3 31 ∷ network) (refused 16 ∷ done ∷ done ∷ [])
unfolding inside
short = lacking network (pos 0) (pos 0) (done ∷ done ∷ []) 1 3 31 2 refl refl refl refl (omega (arith, ints)) on_network

back50 : Gives (pay 3 1 50 ∷ pay 1 3 30 ∷ network) (done ∷ done ∷ done ∷ done ∷ [])
back50 = refusing (pay 3 1 50) (pay 1 3 30 ∷ network) (net_with (neg_ℤ (pos 30)) (neg_ℤ (pos 30))) done (done ∷ done ∷ done ∷ [])
    (λ a s' d. (pay_fits (net_with (neg_ℤ (pos 30)) (neg_ℤ (pos 30))) (due 3 1 50) (neg_ℤ (pos 50) ∷ neg_ℤ (pos 50) ∷ []) a s' refl (omega arith) refl (back (neg_ℤ (pos 30)) (neg_ℤ (pos 30)) (pos 50)) refl d).0) after30

over : Gives (pay 3 1 51 ∷ pay 1 3 30 ∷ network) (refused 16 ∷ done ∷ done ∷ done ∷ [])
unfolding inside
over = lacking (pay 1 3 30 ∷ network) (neg_ℤ (pos 30)) (neg_ℤ (pos 30)) (done ∷ done ∷ done ∷ []) 3 1 51 8 refl refl refl refl (omega (arith, ints)) after30

room3 : (ts : List Turn) → Run ts → calls ts ≡ pay 1 3 30 ∷ network → room 8 (latest ts).lines ≡ pos 50
unfolding inside
room3 ts x h = ap (λ (s : State). room 8 s.lines) (after30 ts x h).0

most : Gives (pay 1 3 1000000 ∷ network) (refused 16 ∷ done ∷ done ∷ [])
unfolding inside
most = lacking network (pos 0) (pos 0) (done ∷ done ∷ []) 1 3 1000000 2 refl refl refl refl (omega (arith, ints)) on_network

-- ---- groups of payments
abbrev begun_times : ℕ → State
begun_times zero = fresh
begun_times (suc k) = begun (begun_times k)

begins : (k : ℕ) (cs : List Call) (rs : List Reply) → begin_checks (begun_times k) ≡ passes → EndsIn cs (λ s. s ≡ begun_times k) rs → EndsIn (Begin ∷ cs) (λ s. s ≡ begun_times (suc k)) (done ∷ rs)
begins k cs rs h i = steadily Begin cs (begun_times k) (begun_times (suc k)) done rs by i
  where
    by : (a : Answer) (s' : State) → Does (begun_times k) Begin a s' → (s' ≡ begun_times (suc k)) × (reply a ≡ done)
    by a s' d = let e = subst (λ (v : Verdict). Plain v (begun_times k) Done (begun (begun_times k)) a s') h d in (e.1, ap reply e.0)

ninth : Gives (replicate 9 Begin) (refused 13 ∷ replicate 8 done)
ninth =
    refusing Begin _ (begun_times 8) (refused 13) _ (λ a s' d. ap reply d.0)
    (begins 7 _ _ refl (begins 6 _ _ refl (begins 5 _ _ refl (begins 4 _ _ refl (begins 3 _ _ refl (begins 2 _ _ refl (begins 1 _ _ refl (begins 0 _ _ refl nothing))))))))

pub sums : Sums
sums = record {
  through = λ ts x h. (after30 ts x h).1;
  short = short;
  back = back50;
  over = over;
  room3 = room3;
  stranger = refusing (pay 64 64 5) [] fresh (refused 5) [] (λ a s' d. ap reply d.0) nothing;
  alone = refusing (pay 1 1 0) [] fresh (refused 6) [] (λ a s' d. ap reply d.0) nothing;
  most = most;
  more = refusing (pay 1 3 1000001) network (net_with (pos 0) (pos 0)) (refused 7) (done ∷ done ∷ []) (λ a s' d. ap reply d.0) on_network;
  ninth = ninth;
  tidied = tidied;
}
