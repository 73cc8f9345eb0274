-- The sheet that a call takes, and the token of the standing reservation, which whoever calls a ledger holds.
use Rattle.std.specs.Prelude.{◌≡◌, ℕ, true, false, Some, None, Ok, Err, Option, Result}
use Rattle.credit.specs.declared.payment.Payment.{Payment}
use Rattle.calls.specs.declared.call.Call.{Call}
use Rattle.calls.specs.declared.call.Call.TheVariants.{Open, Pay, Reserve, Book, Release, Begin, End, Abandon, Tidy}
use Rattle.ledger.specs.declared.reservation.Reservation.{Reservation}
use Rattle.ledger.specs.States.{State}
use Rattle.ledger.specs.Checks.{matches}
use Rattle.ledger.specs.Calls.{Does}
use Rattle.replay.specs.declared.tokens.Served.{Served}

-- the places of the sheet that a call takes; 256 where it takes none
abbrev pub places_of : Call → ℕ
places_of (Open x y t u) = 256
places_of (Pay k pay) = k
places_of (Reserve k pay) = k
places_of (Book k pay) = k
places_of (Release pay) = 256
places_of Begin = 256
places_of End = 256
places_of Abandon = 256
places_of Tidy = 256

-- a call with a sheet of k places, if it takes one
abbrev pub on_sheet : Call → ℕ → Call
on_sheet (Open x y t u) k = Open x y t u
on_sheet (Pay j pay) k = Pay k pay
on_sheet (Reserve j pay) k = Reserve k pay
on_sheet (Book j pay) k = Book k pay
on_sheet (Release pay) k = Release pay
on_sheet Begin k = Begin
on_sheet End k = End
on_sheet Abandon k = Abandon
on_sheet Tidy k = Tidy

-- the payment for which a token is held
abbrev pub claimed : Option Reservation → Option Payment
claimed None = None
claimed (Some v) = Some v.payment

-- the token that is held is that of the standing reservation
abbrev pub Genuine : Option Reservation → State → Type 0
Genuine held s = s.standing ≡ claimed held

-- the token for this payment was held, or none for it is
abbrev pub Sought : Option Reservation → Payment → Result Reservation (Option Reservation) → Type 0
Sought held pay (Ok v) = (held ≡ Some v) × (matches (Some v.payment) pay ≡ true)
Sought held pay (Err x) = (x ≡ held) × (matches (claimed held) pay ≡ false)

-- a call that was served, and the token that is held after it
pub record Serves (s : State) (c : Call) (r : Served) (s' : State) : Type 0 where
  pub does : Does s c r.answer s'
  pub genuine : Genuine r.held s'
