-- What fillings leave: a flow of what they sent, no room negative, and lines and places as they were.
use Rattle.std.proofs.Common.{◌≡◌, ℕ, ◌<◌, ◌≤◌, true, List, length, get_or, drop, ℤ, pos, ◌+ℤ◌, ◌-ℤ◌, neg_ℤ, ◌≤ℤ◌, sym, refl, ◌∙◌, subst, ⊎_elim, arith}
use Rattle.std.proofs.lemmas.Int.{ints}
use Rattle.std.proofs.lemmas.List.{get_or_default}
use Rattle.std.proofs.lemmas.Bool.Decides.{nat_tests}
use Rattle.credit.specs.declared.line.Line.{Line}
use Rattle.credit.specs.declared.payment.Payment.{Payment}
use Rattle.credit.specs.Sums.{every}
use Rattle.credit.specs.Net.{no_line, bounded}
use Rattle.credit.specs.Plans.{booked, moved, Flow, fits, room_from}
use Rattle.credit.proofs.Sums.{every_at}
use Rattle.credit.proofs.Bounds.{le_z_order, bounded_facts, roomy_facts}
use Rattle.credit.proofs.Sends.{flow_none, flow_add, roomy_at}
use Rattle.filling.proofs.Along.{leads_parts, along_length, along_behind, along_flow, along_fits}
use Rattle.credit.specs.Refusals.{passes}
use Rattle.routing.specs.Meaning.{usable, router_checks}
use Rattle.routing.proofs.Passing.{passed_facts, passed_from}
use Rattle.filling.specs.declared.chain.Hop.{Hop}
use Rattle.filling.specs.Fillings.{no_hop, sent_along, Over, room_over, Least, Filling, Fills, Fillings, none, more}

-- ---- lines and plan that a router takes
pub record Usable (ls : List Line) (plan : List ℤ) : Type 0 where
  pub few : length ls ≤ 256
  pub sound : every bounded ls ≡ true
  pub long : length ls ≤ length plan
  pub fit : fits ls plan ≡ true

pub usable_facts : (ls : List Line) (plan : List ℤ) → usable ls plan ≡ true → Usable ls plan
usable_facts ls plan e =
    record { few = grind (arith, nat_tests); sound = grind (arith, nat_tests); long = grind (arith, nat_tests); fit = grind (arith, nat_tests) }

pub usable_from : (ls : List Line) (plan : List ℤ) → Usable ls plan → usable ls plan ≡ true
usable_from ls plan u = grind (arith, nat_tests, u.few, u.sound, u.long, u.fit)

pub passed_usable : (ls : List Line) (pay : Payment) (plan : List ℤ) → router_checks ls pay plan ≡ passes → usable ls plan ≡ true
passed_usable ls pay plan e =
    let p = passed_facts ls pay plan e in
    usable_from ls plan (record { few = p.few; sound = p.sound; long = p.long; fit = p.fit })

-- what is still to send of a payment passes with another plan
pub rest_passes : (ls : List Line) (pay rest : Payment) (entry plan : List ℤ) → router_checks ls pay entry ≡ passes → rest.payer ≡ pay.payer → rest.payee ≡ pay.payee
    → pos 1 ≤ℤ rest.amount → rest.amount ≤ℤ pay.amount → usable ls plan ≡ true → router_checks ls rest plan ≡ passes
rest_passes ls pay rest entry plan h e f low high k =
    let p = passed_facts ls pay entry h in
    let u = usable_facts ls plan k in
    passed_from ls rest plan (record {
      payer = subst (λ m. m < 64) (sym e) p.payer;
      payee = subst (λ m. m < 64) (sym f) p.payee;
      apart = rw (e, f) p.apart;
      low = low;
      high = omega (arith, ints, p.high);
      few = u.few;
      sound = u.sound;
      long = u.long;
      fit = u.fit;
    })

-- a plan number is within the two trusts
pub number_bounds : (ls : List Line) (plan : List ℤ) (i : ℕ) → Usable ls plan → i < length ls → (neg_ℤ (pos 2000000) ≤ℤ get_or plan i (pos 0)) × (get_or plan i (pos 0) ≤ℤ pos 2000000)
number_bounds ls plan i u h =
    let l = get_or ls i no_line in
    let b = bounded_facts l (every_at bounded ls i no_line u.sound h) in
    let r = roomy_facts (moved l (get_or plan i (pos 0))) (roomy_at ls plan i h (omega (arith, u.long)) u.fit) in
    (omega (arith, ints), omega (arith, ints))

-- ---- one filling
-- the room of a step is at least the least
over_room : (ls : List Line) (least : ℤ) (chain : List ℕ) (i : ℕ) (h : Hop) → Over ls least chain i h → least ≤ℤ room_over ls h
over_room ls least chain i h o =
    subst (λ m. least ≤ℤ room_from (get_or ls h.place no_line) m) (sym o.0) (le_z_order least _ (leads_parts (get_or ls h.place no_line) least _ _ o.1.1).1)

one_more : (a b c : ℤ) → a ≤ℤ b → b ≤ℤ c → a ≤ℤ c
one_more a b c h k = omega (arith, ints)

-- what is no more than the least and what is still to send is no more than what is sent
pub sent_bound : (ls : List Line) (least : ℤ) (chain : List ℕ) (hops : List Hop) (left x b : ℤ)
    → ((i : ℕ) → i < length hops → Over ls least chain i (get_or hops i no_hop)) → Least ls hops left x → b ≤ℤ left → b ≤ℤ least → b ≤ℤ x
sent_bound ls least chain hops left x b over v l h =
    ⊎_elim (λ e. subst (λ t. b ≤ℤ t) (sym e) l)
    (λ e. subst (λ t. b ≤ℤ t) (sym e.4)
    (one_more b least (room_over ls e.1) h
    (subst (λ t. least ≤ℤ room_over ls t) (get_or_default hops e.0 no_hop e.1 e.2 ∙ e.3) (over_room ls least chain e.0 _ (over e.0 e.2)))))
    v.met

-- a filling moves at least 1 where each step has room of at least 1
pub filling_some : (ls : List Line) (p q : ℕ) (least left : ℤ) (plan : List ℤ) (chain : List ℕ) (hops : List Hop) (x : ℤ) → Filling ls p q least left plan chain hops x → pos 1 ≤ℤ least → pos 1 ≤ℤ x
filling_some ls p q least left plan chain hops x f h = sent_bound (booked ls plan) least chain hops left x (pos 1) f.over f.amount f.some h

-- what a change of the plan leaves
pub record Left (ls : List Line) (p q : ℕ) (n : ℤ) (from to : List ℤ) : Type 0 where
  pub flow : Flow ls p q n from to
  pub fit : fits ls to ≡ true
  pub long : length to ≡ length from
  pub behind : drop (length ls) to ≡ drop (length ls) from

le_down : (x : ℤ) → pos 1 ≤ℤ x → pos 0 ≤ℤ x
le_down x h = omega (arith, ints)

pub filling_leaves : (ls : List Line) (p q : ℕ) (least left : ℤ) (plan : List ℤ) (chain : List ℕ) (hops : List Hop) (x : ℤ) → Usable ls plan → pos 1 ≤ℤ least
    → Filling ls p q least left plan chain hops x → Left ls p q x plan (sent_along ls hops x plan)
filling_leaves ls p q least left plan chain hops x u h f =
    let s = f.shortest in
    let to = sent_along ls hops x plan in
    let low = le_down x (filling_some ls p q least left plan chain hops x f h) in
    record {
      flow = subst (λ t. Flow ls t q x plan to) s.chain.first
          (subst (λ t. Flow ls (get_or chain 0 0) t x plan to) s.chain.last (along_flow ls plan u.long least chain hops s.apart f.over x));
      fit = along_fits ls plan u.long least chain hops s.apart f.over x u.fit low f.amount.within;
      long = along_length ls plan u.long least chain hops s.apart f.over x;
      behind = along_behind ls plan u.long least chain hops s.apart f.over x;
    }

pub usable_left : (ls : List Line) (p q : ℕ) (n : ℤ) (from to : List ℤ) → Usable ls from → Left ls p q n from to → Usable ls to
usable_left ls p q n from to u l = record { few = u.few; sound = u.sound; long = subst (λ t. length ls ≤ t) (sym l.long) u.long; fit = l.fit }

-- ---- fillings one after another
nothing : (a : ℤ) → pos 0 ≡ a -ℤ a
nothing a = omega (arith, ints)

together : (a b x : ℤ) → (a -ℤ b) +ℤ x ≡ a -ℤ (b -ℤ x)
together a b x = omega (arith, ints)

pub left_none : (ls : List Line) (p q : ℕ) (plan : List ℤ) → Usable ls plan → Left ls p q (pos 0) plan plan
left_none ls p q plan u = record { flow = flow_none ls p q plan; fit = u.fit; long = refl; behind = refl }

pub left_add : (ls : List Line) (p q : ℕ) (a b : ℤ) (x y z : List ℤ) → Left ls p q a x y → Left ls p q b y z → Left ls p q (a +ℤ b) x z
left_add ls p q a b x y z f g =
    record { flow = flow_add ls p q a b x y z f.flow g.flow; fit = g.fit; long = g.long ∙ f.long; behind = g.behind ∙ f.behind }

pub fillings_leave : (ls : List Line) (p q : ℕ) (least : ℤ) {left : ℤ} {plan : List ℤ} {rest : ℤ} {mid : List ℤ} → Usable ls plan → pos 1 ≤ℤ least
    → Fillings ls p q least left plan rest mid → Left ls p q (left -ℤ rest) plan mid
fillings_leave ls p q least {left} {plan} u h none = subst (λ t. Left ls p q t plan plan) (nothing left) (left_none ls p q plan u)
fillings_leave ls p q least {left} {plan} u h (more {rest = rest} {mid = mid} chain hops x fs f) =
    let l = fillings_leave ls p q least u h fs in
    let o = filling_leaves ls p q least rest mid chain hops x (usable_left ls p q (left -ℤ rest) plan mid u l) h f in
    subst (λ t. Left ls p q t plan (sent_along ls hops x mid)) (together left rest x) (left_add ls p q (left -ℤ rest) x plan mid (sent_along ls hops x mid) l o)

-- ---- a filling told by its plans
module _ (ls : List Line) (pay : Payment) (least : ℤ) (from : List ℤ) (x : ℤ) (to : List ℤ) (f : Fills ls pay least from x to) (h : pos 1 ≤ℤ least) where
  pub fills_some : pos 1 ≤ℤ x
  fills_some = filling_some ls pay.payer pay.payee least pay.amount from f.0 f.1 x f.2 h

  pub fills_usable : usable ls from ≡ true → usable ls to ≡ true
  fills_usable e =
      let u = usable_facts ls from e in
      let l = filling_leaves ls pay.payer pay.payee least pay.amount from f.0 f.1 x u h f.2 in
      subst (λ t. usable ls t ≡ true) (sym f.3) (usable_from ls (sent_along ls f.1 x from) (usable_left ls pay.payer pay.payee x from _ u l))

pub fills_more : (ls : List Line) (pay : Payment) (least start : ℤ) (plan from to : List ℤ) (x : ℤ) → Fillings ls pay.payer pay.payee least start plan pay.amount from
    → Fills ls pay least from x to → Fillings ls pay.payer pay.payee least start plan (pay.amount -ℤ x) to
fills_more ls pay least start plan from to x fs f = subst (λ t. Fillings ls pay.payer pay.payee least start plan (pay.amount -ℤ x) t) (sym f.3) (more f.0 f.1 x fs f.2)
