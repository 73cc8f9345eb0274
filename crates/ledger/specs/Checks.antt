-- The table of refusals, call by call: the checks in their order.
use Rattle.std.specs.Prelude.{ℕ, Bool, true, false, not, ◌&&◌, List, [], ◌∷◌, length, ℤ, is_some, Some, None, Option, ◌==◌, int_le, nat_le}
use Rattle.credit.specs.declared.payment.Payment.{Payment}
use Rattle.credit.specs.declared.refusal.Refusal.TheVariants.{NoSuchMember, ReservationStands, Spoiled, SavepointOpen, TooManySavepoints, NoSavepoint, NoSuchReservation, BadPlanSheet}
use Rattle.credit.specs.Refusals.{Verdict, passes, check}
use Rattle.routing.specs.Meaning.{payment_checks}
use Rattle.ledger.specs.Between.{line_checks}
use Rattle.ledger.specs.States.{State, OpenGroup}

-- whether the inmost group is spoiled; no group is spoiled where none is open
abbrev pub inmost_spoiled : List OpenGroup → Bool
inmost_spoiled [] = false
inmost_spoiled (g ∷ gs) = g.spoiled

abbrev pub none_open : List OpenGroup → Bool
none_open [] = true
none_open (g ∷ gs) = false

abbrev pub eq_z : ℤ → ℤ → Bool
eq_z x y = int_le x y && int_le y x

-- a reservation for this payment stands
abbrev pub matches : Option Payment → Payment → Bool
matches None pay = false
matches (Some p) pay = p.payer == pay.payer && (p.payee == pay.payee && eq_z p.amount pay.amount)

-- of pay and reserve, before a router is asked; k is the number of places of the plan sheet
abbrev pub pay_checks : State → ℕ → Payment → Verdict
pay_checks s k pay =
    check (not (k == 256)) BadPlanSheet
    (check (is_some s.standing) ReservationStands
    (check (inmost_spoiled s.groups) Spoiled
    (payment_checks pay passes)))

abbrev pub book_checks : State → ℕ → Payment → Verdict
book_checks s k pay = check (not (k == 256)) BadPlanSheet (check (not (matches s.standing pay)) NoSuchReservation passes)

abbrev pub open_checks : State → ℕ → ℕ → ℤ → ℤ → Verdict
open_checks s x y t u =
    check (is_some s.standing) ReservationStands
    (check (not (none_open s.groups)) SavepointOpen
    (line_checks s.lines x y t u))

abbrev pub begin_checks : State → Verdict
begin_checks s = check (is_some s.standing) ReservationStands (check (nat_le 8 (length s.groups)) TooManySavepoints passes)

-- of end and abandon
abbrev pub close_checks : State → Verdict
close_checks s = check (is_some s.standing) ReservationStands (check (none_open s.groups) NoSavepoint passes)

-- of the questions on one member
abbrev pub member_checks : ℕ → Verdict
member_checks m = check (nat_le 64 m) NoSuchMember passes
