-- What rounds of fillings leave is a router's answer.
use Rattle.std.proofs.Common.{◌≡◌, ℕ, suc, ◌^◌, ◌<◌, Bool, true, false, List, [], ◌∷◌, ◌++◌, length, get_or, take, drop, ℤ, pos, ◌+ℤ◌, ◌-ℤ◌, ◌≤ℤ◌, ◌<ℤ◌, Ok, Err, refl, ap, ◌∙◌, subst, arith}
use Rattle.std.proofs.lemmas.Int.{ints, by_lt_z}
use Rattle.std.proofs.lemmas.List.{take-append-drop, length-take-le}
use Rattle.std.proofs.lemmas.Bool.{both_ways}
use Rattle.std.proofs.lemmas.Bool.Decides.{nat_tests}
use Rattle.members.specs.Groups.{inside}
use Rattle.credit.specs.declared.line.Line.{Line}
use Rattle.credit.specs.declared.payment.Payment.{Payment}
use Rattle.credit.specs.Sums.{sum_z, only}
use Rattle.credit.specs.Net.{no_line, bounded}
use Rattle.credit.specs.Rooms.{room_onward, room_back, line_room, room_out, room}
use Rattle.credit.specs.Plans.{booked, roomy, Flow}
use Rattle.credit.proofs.Sums.{every_at}
use Rattle.credit.proofs.Bounds.{bounded_facts, roomy_facts, le_z_test}
use Rattle.credit.proofs.Booked.{bounded_booked}
use Rattle.credit.proofs.Rooms.{flow_room, ends_bounded}
use Rattle.routing.specs.Meaning.{Routed, Tight}
use Rattle.filling.specs.Steps.{leads}
use Rattle.credit.specs.Refusals.{Verdict}
use Rattle.filling.specs.Fillings.{Closed, Round, Rounds, Settles}
use Rattle.routing.proofs.Passing.{Passed}
use Rattle.filling.proofs.Filled.{Usable, usable_left}
use Rattle.filling.proofs.Rounding.{rounds_leave, one_round}

-- a sum of nothing
sum_none : {X : Type 0} (f : X → ℤ) (d : X) (xs : List X) → ((i : ℕ) → i < length xs → f (get_or xs i d) ≡ pos 0) → sum_z f xs ≡ pos 0
sum_none f d [] h = refl
sum_none f d (x ∷ xs) h = omega (arith, ints, h 0 (omega arith), sum_none f d xs (λ i l. h (suc i) (omega arith)))

neither : (a : ℤ) → pos 0 ≤ℤ a → (pos 1 ≤ℤ a → ⊥) → a ≡ pos 0
neither a h f = by_lt_z (pos 0) a (λ l. absurd (f (omega (arith, ints, l)))) (λ l. omega (arith, ints, l, h))

-- a line with room leads along it
leads_onward : (l : Line) → pos 1 ≤ℤ room_onward l → leads l (pos 1) l.a l.b ≡ true
leads_onward l k = let e = le_z_test (pos 1) (room_onward l) k in grind (arith, nat_tests)

leads_back : (l : Line) → l.a < l.b → pos 1 ≤ℤ room_back l → leads l (pos 1) l.b l.a ≡ true
leads_back l h k = let e = le_z_test (pos 1) (room_back l) k in grind (arith, nat_tests)

-- so a line that leaves a group, where none with room does, has no room
line_none : (g : ℕ) (l : Line) → bounded l ≡ true → roomy l ≡ true → ((m n : ℕ) → m < 64 → n < 64 → inside g m ≡ true → leads l (pos 1) m n ≡ true → inside g n ≡ true) → room_out g l ≡ pos 0
line_none g l e r s = by (inside g l.a) (inside g l.b) refl refl
  where
    by : (x y : Bool) → inside g l.a ≡ x → inside g l.b ≡ y → line_room x y l ≡ pos 0
    by true true a b = refl
    by true false a b =
        let f = bounded_facts l e in
        neither (room_onward l) (roomy_facts l r).0 (λ k. both_ways (inside g l.b) b (s l.a l.b (omega (arith, f.order, f.high)) f.high a (leads_onward l k)))
    by false true a b =
        let f = bounded_facts l e in
        neither (room_back l) (roomy_facts l r).1 (λ k. both_ways (inside g l.a) a (s l.b l.a f.high (omega (arith, f.order, f.high)) b (leads_back l f.order k)))
    by false false a b = refl

closed_room : (ls : List Line) (plan : List ℤ) (p q g : ℕ) → Usable ls plan → Closed ls p q (pos 1) plan g → room g (booked ls plan) ≡ pos 0
closed_room ls plan p q g u s =
    sum_none (room_out g) no_line (booked ls plan)
    (λ i h. line_none g (get_or (booked ls plan) i no_line) (every_at bounded (booked ls plan) i no_line (bounded_booked ls plan u.sound u.fit) h) (every_at roomy (booked ls plan) i no_line u.fit h)
    (λ m n hm hn a e. s.closed m n hm hn a (i, (h, e))))

nothing_left : (n : ℤ) → n -ℤ pos 0 ≡ n
nothing_left n = omega (arith, ints)

fewer : (n left : ℤ) → pos 1 ≤ℤ left → (n -ℤ left) <ℤ n
fewer n left h = omega (arith, ints)

sent_room : (w r n : ℤ) → r ≡ pos 0 → r ≡ (w -ℤ n) +ℤ pos 0 → n ≡ w
sent_room w r n e f = omega (arith, ints)

module _ (ls : List Line) (pay : Payment) (entry : List ℤ) (c : Passed ls pay entry) (top : ℕ) where
  abbrev Leave : ℤ → List ℤ → Type 0
  Leave left to = Rounds ls pay.payer pay.payee top pay.amount entry left to

  usable_entry : Usable ls entry
  usable_entry = record { few = c.few; sound = c.sound; long = c.long; fit = c.fit }

  -- nothing is left to send
  pub all_routed : (exit : List ℤ) → Leave (pos 0) exit → Routed ls pay entry exit
  all_routed exit r =
      let l = rounds_leave ls pay.payer pay.payee usable_entry r in
      record { flow = subst (λ t. Flow ls pay.payer pay.payee t entry exit) (nothing_left pay.amount) l.flow; fit = l.fit; long = l.long; behind = l.behind }

  -- something is left, and a group that no room leaves
  pub all_tight : (left : ℤ) (to : List ℤ) (g : ℕ) → g < 2 ^ 64 → Leave left to → pos 1 ≤ℤ left → Closed ls pay.payer pay.payee (pos 1) to g → Tight ls pay entry g (pay.amount -ℤ left)
  all_tight left to g w r h s =
      let n = pay.amount -ℤ left in
      let l = rounds_leave ls pay.payer pay.payee usable_entry r in
      let u = usable_left ls pay.payer pay.payee n entry to usable_entry l in
      let o : inside g pay.payee ≡ false = grind (arith, nat_tests, s.outside) in
      let f = flow_room g ls pay.payer pay.payee n entry to (ends_bounded ls c.sound) c.payer c.payee l.flow in
      let e : room g (booked ls to) ≡ (room g (booked ls entry) -ℤ n) +ℤ pos 0 =
      f ∙ ap (λ t. (room g (booked ls entry) -ℤ only t n) +ℤ only (inside g pay.payee) n) s.inside ∙ ap (λ t. (room g (booked ls entry) -ℤ n) +ℤ only t n) o in
      record {
        word = w;
        payer = s.inside;
        payee = o;
        has = sent_room (room g (booked ls entry)) (room g (booked ls to)) n (closed_room ls to pay.payer pay.payee g u s) e;
        less = fewer pay.amount left h;
      }

  -- the plan numbers of the lines put back
  pub taken_back : (left : ℤ) (to copy : List ℤ) → Leave left to → copy ≡ take (length ls) entry → copy ++ drop (length copy) to ≡ entry
  taken_back left to copy r e =
      let l = rounds_leave ls pay.payer pay.payee usable_entry r in
      let n : length copy ≡ length ls = ap (λ t. length t) e ∙ length-take-le (length ls) entry c.long in
      ap (λ k. copy ++ drop k to) n ∙ ap (λ t. t ++ drop (length ls) to) e ∙ ap (λ t. take (length ls) entry ++ t) l.behind ∙ take-append-drop (length ls) entry

-- rounds from the threshold 1 on are one round
pub settles_once : (ls : List Line) (pay : Payment) (top : ℕ) (entry : List ℤ) (r : Verdict) (exit : List ℤ) → top ≡ 1 → Settles (Rounds ls pay.payer pay.payee top pay.amount entry) ls pay entry r exit
    → Settles (Round ls pay.payer pay.payee (pos 1) pay.amount entry) ls pay entry r exit
settles_once ls pay top entry (Ok u) exit one s = one_round ls pay.payer pay.payee (rw one at s)
settles_once ls pay top entry (Err e) exit one s = (s.0, s.1, s.2, one_round ls pay.payer pay.payee (rw one at s.3), s.4, s.5, s.6)
