-- What Direct does beyond the meaning of every router: the first line that joins payer and payee carries what it can, and
-- the rest goes to the router below.
use Rattle.std.specs.Prelude.{◌≡◌, ℕ, Bool, true, false, List, ℤ, pos, ◌+ℤ◌, ◌-ℤ◌, Some, None, Ok, Err, Option, int_lt, slice_index_or, slice_set}
use Rattle.std.specs.Int.{int_min}
use Rattle.std.specs.List.{position}
use Rattle.members.specs.declared.group.Group.{Group}
use Rattle.credit.specs.declared.line.Line.{Line}
use Rattle.credit.specs.declared.payment.Payment.{Payment}
use Rattle.credit.specs.declared.refusal.Refusal.TheVariants.{WantOfRoom}
use Rattle.credit.specs.Refusals.{Verdict, passes}
use Rattle.credit.specs.Net.{no_line}
use Rattle.credit.specs.Plans.{moved, sent_from, room_from}
use Rattle.credit.specs.Pairs.{joins}
use Rattle.routing.specs.Meaning.{router_checks, Routes}
use Rattle.routing.specs.declared.direct.Share.{Share}

-- what line i carries for the payer, after x is planned on it: what it can, at most the amount
abbrev pub share_on : Line → ℕ → Payment → ℤ → Share
share_on l i pay x =
    record {
      place = i;
      before = x;
      part = int_min pay.amount (room_from (moved l x) pay.payer);
      after = sent_from l pay.payer x (int_min pay.amount (room_from (moved l x) pay.payer));
    }

-- the share of the first line that joins payer and payee, if any does
abbrev pub share_at : Option ℕ → List Line → Payment → List ℤ → Option Share
share_at None ls pay plan = None
share_at (Some i) ls pay plan = Some (share_on (slice_index_or ls i no_line) i pay (slice_index_or plan i (pos 0)))

abbrev pub direct_share : List Line → Payment → List ℤ → Option Share
direct_share ls pay plan = share_at (position (joins pay.payer pay.payee) ls) ls pay plan

-- the payment less what the share carries of it
abbrev pub rest_of : Payment → Share → Payment
rest_of pay s = record { payer = pay.payer; payee = pay.payee; amount = pay.amount -ℤ s.part }

-- The answer and the plan here, where the router below answered v and left its plan as left: routed, with that plan; or
-- the same group with the room larger by the part, and the plan as at entry.
abbrev pub Upward : Verdict → List ℤ → ℤ → List ℤ → Verdict → List ℤ → Type 0
Upward (Ok u) left part entry r exit = (r ≡ passes) × (exit ≡ left)
Upward (Err e) left part entry r exit =
    (g : Group) × (w : ℤ) × (e ≡ WantOfRoom g w) × (r ≡ Err (WantOfRoom g (w +ℤ part))) × (exit ≡ entry)

-- the router below was given the rest and a plan, and the answer here follows from what it answered and left
abbrev pub Below : List Line → (rest : Payment) → (part : ℤ) → (given entry : List ℤ) → Verdict → List ℤ → Type 0
Below ls rest part given entry r exit = (v : Verdict) × (left : List ℤ) × Routes ls rest given v left × Upward v left part entry r exit

-- the share is less than the amount, and the router below is given the rest; or it is the amount, and one number changed
abbrev pub Beside : Bool → Share → List Line → Payment → List ℤ → Verdict → List ℤ → Type 0
Beside true s ls pay entry r exit = Below ls (rest_of pay s) s.part (slice_set entry s.place s.after) entry r exit
Beside false s ls pay entry r exit = (r ≡ passes) × (exit ≡ slice_set entry s.place s.after)

-- without a line that joins the two, all goes to the router below
abbrev pub Shared : Option Share → List Line → Payment → List ℤ → Verdict → List ℤ → Type 0
Shared None ls pay entry r exit = Routes ls pay entry r exit
Shared (Some s) ls pay entry r exit = Beside (int_lt s.part pay.amount) s ls pay entry r exit

-- the first refusal that applies, and the plan as it was; or what goes directly
abbrev pub Past : Verdict → Type 0 → List ℤ → Verdict → List ℤ → Type 0
Past (Err e) P entry r exit = (r ≡ Err e) × (exit ≡ entry)
Past (Ok u) P entry r exit = P

abbrev pub Directs : List Line → Payment → List ℤ → Verdict → List ℤ → Type 0
Directs ls pay entry r exit = Past (router_checks ls pay entry) (Shared (direct_share ls pay entry) ls pay entry r exit) entry r exit
