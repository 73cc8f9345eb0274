-- Fillings of chains, one after another.
use Rattle.std.specs.Prelude.{◌≡◌, ℕ, ◌+◌, ◌/◌, ◌<◌, ◌⊎◌, List, length, ℤ, pos, ◌-ℤ◌, ◌≤ℤ◌, Ok, Err, Result, slice_index, slice_index_or, slice_set}
use Rattle.std.specs.Int.{int_min}
use Rattle.std.specs.List.{fold, All, Any}
use Rattle.credit.specs.declared.line.Line.{Line}
use Rattle.credit.specs.declared.payment.Payment.{Payment}
use Rattle.credit.specs.Net.{no_line}
use Rattle.credit.specs.Plans.{booked, sent_from, room_from}
use Rattle.search.specs.Chains.{IsShortest, Separates}
use Rattle.members.specs.declared.group.Group.{Group}
use Rattle.credit.specs.declared.refusal.Refusal.TheVariants.{WantOfRoom}
use Rattle.credit.specs.Refusals.{Verdict}
use Rattle.filling.specs.declared.chain.Hop.{Hop}
use Rattle.filling.specs.declared.fill.Short.{Short}
use Rattle.routing.specs.Meaning.{router_checks}
use Rattle.filling.specs.Steps.{LeadsAt, RoomStep}

-- what a list of hops is read as past its end
abbrev pub no_hop : Hop
no_hop = record { place = 0; from = 0 }

-- the plan once x more is moved over a hop
abbrev pub sent_over : List Line → ℤ → List ℤ → Hop → List ℤ
sent_over ls x plan h =
    slice_set plan h.place (sent_from (slice_index_or ls h.place no_line) h.from (slice_index_or plan h.place (pos 0)) x)

-- the plan once x more is moved over hops, one after another
abbrev pub sent_along : List Line → List Hop → ℤ → List ℤ → List ℤ
sent_along ls hops x plan = fold (sent_over ls x) plan hops

-- the hop is step i of the chain: it goes over a line whose room is at least so much
abbrev pub Over : List Line → ℤ → (chain : List ℕ) (i : ℕ) → Hop → Type 0
Over ls least chain i h = (h.from ≡ slice_index chain i) × LeadsAt ls least (slice_index chain i) (slice_index chain (i + 1)) h.place

-- the room over a hop
abbrev pub room_over : List Line → Hop → ℤ
room_over ls h = room_from (slice_index_or ls h.place no_line) h.from

-- the least room over the hops, or what is still to send where that is less
abbrev pub least_over : List Line → List Hop → ℤ → ℤ
least_over ls hops left = fold (λ least h. int_min least (room_over ls h)) left hops

-- x is the least room over the hops, or what is still to send where that is less
pub record Least (ls : List Line) (hops : List Hop) (left x : ℤ) : Type 0 where
  pub most : x ≤ℤ left
  pub within : All (λ h. x ≤ℤ room_over ls h) hops
  pub met : (x ≡ left) ⊎ Any (λ h. x ≡ room_over ls h) hops

-- A filling by x: along a shortest chain from p to q whose steps have room of at least `least`, by its least room or by
-- what is still to send.
pub record Filling (ls : List Line) (p q : ℕ) (least left : ℤ) (plan : List ℤ) (chain : List ℕ) (hops : List Hop) (x : ℤ) : Type 0 where
  pub some : pos 1 ≤ℤ left
  pub shortest : IsShortest (RoomStep (booked ls plan) least) p q chain (length hops)
  pub over : (i : ℕ) → i < length hops → Over (booked ls plan) least chain i (slice_index_or hops i no_hop)
  pub amount : Least (booked ls plan) hops left x

-- one filling by x, with the plan before and after it
abbrev pub Fills : List Line → Payment → ℤ → List ℤ → ℤ → List ℤ → Type 0
Fills ls pay least from x to =
    (chain : List ℕ) × (hops : List Hop) × Filling ls pay.payer pay.payee least pay.amount from chain hops x × (to ≡ sent_along ls hops x from)

-- fillings one after another: what is still to send and the plan, before and after
pub data Fillings (ls : List Line) (p q : ℕ) (least : ℤ) : ℤ → List ℤ → ℤ → List ℤ → Type 0 where
  none : {left : ℤ} {plan : List ℤ} → Fillings ls p q least left plan left plan
  more : {left : ℤ} {plan : List ℤ} {rest : ℤ} {mid : List ℤ} (chain : List ℕ) (hops : List Hop) (x : ℤ)
      → Fillings ls p q least left plan rest mid → Filling ls p q least rest mid chain hops x
      → Fillings ls p q least left plan (rest -ℤ x) (sent_along ls hops x mid)

-- no chain is left that could be filled: a group holds p, lacks q, and no line with room of at least `least` leaves it
abbrev pub Closed : List Line → (p q : ℕ) → ℤ → List ℤ → ℕ → Type 0
Closed ls p q least plan g = Separates (RoomStep (booked ls plan) least) p q g

-- chains are filled as long as something is to send and there is one
abbrev pub Round : List Line → (p q : ℕ) → ℤ → ℤ → List ℤ → ℤ → List ℤ → Type 0
Round ls p q least left from rest to = Fillings ls p q least left from rest to × ((rest ≡ pos 0) ⊎ ((g : ℕ) × Closed ls p q least to g))

-- rounds with a threshold that is halved down to 1
pub data Rounds (ls : List Line) (p q : ℕ) : ℕ → ℤ → List ℤ → ℤ → List ℤ → Type 0 where
  last : {left : ℤ} {from : List ℤ} {rest : ℤ} {to : List ℤ} → Round ls p q (pos 1) left from rest to → Rounds ls p q 1 left from rest to
  next : {least : ℕ} {left : ℤ} {from : List ℤ} {mid : ℤ} {via : List ℤ} {rest : ℤ} {to : List ℤ} → 1 < least
      → Round ls p q (pos least) left from mid via → Rounds ls p q (least / 2) mid via rest to → Rounds ls p q least left from rest to

-- how a round ends: nothing is left to send, or so much and a group
abbrev pub Ends : List Line → Payment → ℤ → List ℤ → Result (Unit {0}) Short → List ℤ → Type 0
Ends ls pay least from (Ok u) to = Fillings ls pay.payer pay.payee least pay.amount from (pos 0) to
Ends ls pay least from (Err s) to =
    Fillings ls pay.payer pay.payee least pay.amount from s.left to × (pos 1 ≤ℤ s.left) × (s.left ≤ℤ pay.amount) × Closed ls pay.payer pay.payee least to s.group.bits

-- how rounds with thresholds halved down to 1 end
abbrev pub RoundsEnd : List Line → Payment → ℕ → List ℤ → Result (Unit {0}) Short → List ℤ → Type 0
RoundsEnd ls pay top from (Ok u) to = Rounds ls pay.payer pay.payee top pay.amount from (pos 0) to
RoundsEnd ls pay top from (Err s) to =
    Rounds ls pay.payer pay.payee top pay.amount from s.left to × (pos 1 ≤ℤ s.left) × (s.left ≤ℤ pay.amount) × Closed ls pay.payer pay.payee (pos 1) to s.group.bits

-- What a router that fills chains leaves. R left to: its fillings leave so much to send, and the plan `to`. Refused, it names
-- a group that no room leaves any more, with what was sent as the group's room, and the plan is as at entry.
abbrev pub Settles : (ℤ → List ℤ → Type 0) → List Line → Payment → List ℤ → Verdict → List ℤ → Type 0
Settles R ls pay entry (Ok u) exit = R (pos 0) exit
Settles R ls pay entry (Err e) exit =
    (left : ℤ) × (to : List ℤ) × (g : Group) × R left to × Closed ls pay.payer pay.payee (pos 1) to g.bits × (e ≡ WantOfRoom g (pay.amount -ℤ left)) × (exit ≡ entry)

-- the first refusal that applies, which leaves the plan as it was; or past the checks
abbrev pub Past : Verdict → (Verdict → List ℤ → Type 0) → List ℤ → Verdict → List ℤ → Type 0
Past (Err e) P entry r exit = (r ≡ Err e) × (exit ≡ entry)
Past (Ok u) P entry r exit = P r exit

-- rounds with a threshold that starts at top
abbrev pub FillsFrom : ℕ → List Line → Payment → List ℤ → Verdict → List ℤ → Type 0
FillsFrom top ls pay entry r exit = Past (router_checks ls pay entry) (Settles (Rounds ls pay.payer pay.payee top pay.amount entry) ls pay entry) entry r exit

-- one round with room of at least 1
abbrev pub Breadths : List Line → Payment → List ℤ → Verdict → List ℤ → Type 0
Breadths ls pay entry r exit = Past (router_checks ls pay entry) (Settles (Round ls pay.payer pay.payee (pos 1) pay.amount entry) ls pay entry) entry r exit

-- rounds with a threshold that starts at 1,048,576
abbrev pub Scales : List Line → Payment → List ℤ → Verdict → List ℤ → Type 0
Scales ls pay entry r exit = FillsFrom 1048576 ls pay entry r exit
