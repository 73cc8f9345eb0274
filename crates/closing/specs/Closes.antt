-- A whole batch: its door, its lines, its end and its statement.
use Rattle.std.specs.Prelude.{◌≡◌, ℕ, not, ◌⊎◌, List, [], ◌∷◌, ◌++◌, length, is_some, None, Ok, Err, nat_lt}
use Rattle.credit.specs.declared.refusal.Refusal.TheVariants.{ReservationStands, SavepointOpen, LeftOpen, BatchTooLong}
use Rattle.credit.specs.Refusals.{Verdict, passes, check}
use Rattle.calls.specs.declared.call.Call.TheVariants.{Abandon}
use Rattle.calls.specs.declared.call.Answer.TheVariants.{Undone}
use Rattle.ledger.specs.States.{State}
use Rattle.ledger.specs.Checks.{none_open}
use Rattle.ledger.specs.Calls.{Does}
use Rattle.batch.specs.declared.sheet.SheetLine.{SheetLine}
use Rattle.batch.specs.declared.sheet.SheetLine.TheVariants.{Refused}
use Rattle.batch.specs.Reads.{steps_of}
use Rattle.closing.specs.Statements.{statement}
use Rattle.closing.specs.Carries.{Place, at, Carries}

-- the refusals of a batch as a whole, in order
abbrev pub door_checks : State → List ℕ → Verdict
door_checks s batch =
    check (nat_lt 32768 (length batch)) BatchTooLong
    (check (is_some s.standing) ReservationStands
    (check (not (none_open s.groups)) SavepointOpen
    passes))

-- the open groups are abandoned from the inmost out; each is named by the line of its `(all`
abbrev pub Abandons : List ℕ → State → List SheetLine → State → Type 0
Abandons [] s sheet s' = (sheet ≡ []) × (s' ≡ s)
Abandons (l ∷ ls) s sheet s' =
    (t : State) × (more : List SheetLine) × Does s Abandon Undone t × (sheet ≡ Refused l LeftOpen ∷ more) × Abandons ls t more s'

-- the same, with the sheet before and after
pub record Ended (marks : List ℕ) (s : State) (before after : List SheetLine) (s' : State) : Type 0 where
  pub left : List SheetLine
  pub abandons : Abandons marks s left s'
  pub sheet_is : after ≡ before ++ left

-- past its door a batch is carried out, ended and stated
pub record Carried (s : State) (batch : List ℕ) (sheet : List SheetLine) (s' : State) : Type 0 where
  pub answers : List SheetLine
  pub place : Place
  pub closed : List SheetLine
  pub carries : Carries (steps_of batch) (at s []) answers place
  pub ended : Ended place.marks place.state answers closed s'
  pub sheet_is : sheet ≡ closed ++ statement s'.lines

abbrev pub ClosesBy : Verdict → State → List ℕ → List SheetLine → State → Type 0
ClosesBy (Err e) s batch sheet s' = (sheet ≡ Refused 0 e ∷ []) × (s' ≡ s)
ClosesBy (Ok u) s batch sheet s' = Carried s batch sheet s'

-- the ledger before, the batch's bytes, the sheet's lines and the ledger after
abbrev pub Closes : State → List ℕ → List SheetLine → State → Type 0
Closes s batch sheet s' = ClosesBy (door_checks s batch) s batch sheet s'

-- nothing reaches into the next batch: no group is open and no reservation stands, unless the batch was refused at its
-- door and left the ledger as it was
abbrev pub Settled : State → State → Type 0
Settled s s' = (s' ≡ s) ⊎ ((s'.groups ≡ []) × (s'.standing ≡ None))
