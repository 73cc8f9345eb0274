-- The law of router independence, over whole runs.
use Rattle.std.specs.Prelude.{◌≡◌, ℕ, zero, ◌^◌, ◌<◌, true, false, List, [], ◌∷◌, ℤ, ◌+ℤ◌, ◌<ℤ◌}
use Rattle.members.specs.Groups.{inside}
use Rattle.credit.specs.declared.payment.Payment.{Payment}
use Rattle.credit.specs.Refusals.{passes}
use Rattle.credit.specs.Net.{net}
use Rattle.credit.specs.Rooms.{trust_into, net_inside}
use Rattle.calls.specs.declared.call.Call.{Call}
use Rattle.calls.specs.declared.call.Call.TheVariants.{Open, Pay, Reserve, Book, Release, Begin, End, Abandon, Tidy}
use Rattle.ledger.specs.Checks.{pay_checks}
use Rattle.replay.specs.Runs.{Turn, latest, Run, calls, net_tables, Reply, refused, reply, replies}
use Rattle.replay.specs.History.{trust_set, tally}

-- ---- room decides
-- the room of a group after a run: the trust that outsiders give insiders, as calls set it, plus the insiders' net positions
abbrev pub room_by : ℕ → List Turn → ℤ
room_by g ts = trust_into g (trust_set ts) +ℤ net_inside g (λ m. net m (latest ts).lines)

-- some group has the payer inside, the payee outside and less room than the amount
abbrev pub Short : List Turn → Payment → Type 0
Short ts pay = (g : ℕ) × (g < 2 ^ 64) × (inside g pay.payer ≡ true) × (inside g pay.payee ≡ false) × (room_by g ts <ℤ pay.amount)

abbrev pub LacksRoom : Reply → Type 0
LacksRoom r = r ≡ refused 16

-- where no earlier refusal applies, room is lacking exactly when some group is short of it
abbrev pub LacksRight : ℕ → Payment → List Turn → Reply → Type 0
LacksRight k pay ts r =
    pay_checks (latest ts) k pay ≡ passes → (LacksRoom r → Short ts pay) × (Short ts pay → LacksRoom r)

-- of a payment or a reservation; ts are the calls before it
abbrev pub RoomRule : Call → List Turn → Reply → Type 0
RoomRule (Open x y t u) ts r = Unit {0}
RoomRule (Pay k pay) ts r = LacksRight k pay ts r
RoomRule (Reserve k pay) ts r = LacksRight k pay ts r
RoomRule (Book k pay) ts r = Unit {0}
RoomRule (Release pay) ts r = Unit {0}
RoomRule Begin ts r = Unit {0}
RoomRule End ts r = Unit {0}
RoomRule Abandon ts r = Unit {0}
RoomRule Tidy ts r = Unit {0}

abbrev pub RoomDecides : List Turn → Type 0
RoomDecides [] = Unit {0}
RoomDecides (t ∷ ts) = RoomRule t.call ts (reply t.answer) × RoomDecides ts

-- ---- payments alone move net positions
-- after every call each net position is what payments brought the member less what they cost it
abbrev pub NetsTally : List Turn → Type 0
NetsTally [] = Unit {0}
NetsTally (t ∷ ts) = ((m : ℕ) → m < 64 → net m t.after.lines ≡ tally m (t ∷ ts) zero) × NetsTally ts

-- ---- the law
-- in a run, room decides and payments alone move net positions
pub record Accounted (ts : List Turn) : Type 0 where
  pub rooms : RoomDecides ts
  pub tallies : NetsTally ts

-- two runs have the same answers and after every call the same 64 net positions, and each is accounted for
pub record Lawful (ts us : List Turn) : Type 0 where
  pub answers : replies ts ≡ replies us
  pub nets : net_tables ts ≡ net_tables us
  pub one : Accounted ts
  pub other : Accounted us

-- any two runs of new ledgers over the same calls
abbrev pub Law : Type 0
Law = (ts us : List Turn) → Run ts → Run us → calls ts ≡ calls us → Lawful ts us
