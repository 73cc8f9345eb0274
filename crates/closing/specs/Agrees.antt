-- Two closings of one batch, each line served by any router: what the sheets and the ledgers share.
use Rattle.std.specs.Prelude.{◌≡◌, ℕ, ltb, List, [], map, length, ℤ, is_some, Ok, Err, Result, nat_lt}
use Rattle.credit.specs.declared.refusal.Refusal.{Refusal}
use Rattle.credit.specs.Refusals.{number_of}
use Rattle.credit.specs.Net.{net_table}
use Rattle.ledger.specs.declared.state.Ledger.{Ledger}
use Rattle.ledger.specs.Debts.{with_debts}
use Rattle.ledger.specs.States.{State, state_of}
use Rattle.ledger.specs.Checks.{none_open}
use Rattle.batch.specs.declared.form.Form.{Form}
use Rattle.batch.specs.declared.form.Form.TheVariants.{Line, Pay, Try, Tidy, Route, All, Close}
use Rattle.batch.specs.declared.form.Choice.TheVariants.{Breadth}
use Rattle.batch.specs.declared.reader.Step.{Step}
use Rattle.batch.specs.declared.sheet.SheetLine.{SheetLine}
use Rattle.batch.specs.declared.sheet.SheetLine.TheVariants.{Done, Kept, Undone, Refused, Net, Debt, End}
use Rattle.batch.specs.Reads.{steps_of}
use Rattle.closing.specs.Closes.{Closes}

-- a sheet line apart from the group and the room that are told for want of room, and from the debt on a line
pub data Told : Type 0 where
  done : ℕ → Told
  kept : ℕ → Told
  undone : ℕ → Told
  refused : ℕ → ℕ → Told
  net : ℕ → ℤ → Told
  debt : ℕ → ℕ → Told
  end : Told

abbrev pub told : SheetLine → Told
told (Done l) = done l
told (Kept l) = kept l
told (Undone l) = undone l
told (Refused l e) = refused l (number_of e)
told (Net m n) = net m n
told (Debt a b d) = debt a b
told End = end

-- two ledgers that differ only in debts: the same lines and trusts in the same order, the same 64 net positions, and of
-- open groups and of a reservation both have some or neither has
pub record Alike (s t : State) : Type 0 where
  pub lines : with_debts s.lines [] ≡ with_debts t.lines []
  pub nets : net_table s.lines ≡ net_table t.lines
  pub groups : none_open s.groups ≡ none_open t.groups
  pub standing : is_some s.standing ≡ is_some t.standing

-- a form apart from which router it picks
abbrev pub unrouted : Form → Form
unrouted (Line x y t u) = Line x y t u
unrouted (Pay pay) = Pay pay
unrouted (Try pay) = Try pay
unrouted Tidy = Tidy
unrouted (Route c) = Route Breadth
unrouted All = All
unrouted Close = Close

abbrev pub unrouted_or : Result Form Refusal → Result Form Refusal
unrouted_or (Ok f) = Ok (unrouted f)
unrouted_or (Err e) = Err e

abbrev pub asked : Step → Step
asked step = record { line = step.line; form = unrouted_or step.form }

-- two batches that ask the same, apart from which routers they pick; both are too long or neither is
pub record SameAsked (one other : List ℕ) : Type 0 where
  pub forms : map asked (steps_of one) ≡ map asked (steps_of other)
  pub long : ltb 32768 (length one) ≡ nat_lt 32768 (length other)

-- the same sheet apart from the group and the room for want of room and the debts, and ledgers alike again
pub record Agree (xs ys : List SheetLine) (s t : State) : Type 0 where
  pub sheets : map told xs ≡ map told ys
  pub ledgers : Alike s t

-- any two closings of batches that ask the same, on any two ledgers that differ only in debts
abbrev pub SheetLaw : Type 0
SheetLaw =
    (one other : Ledger) (b c : List ℕ) (xs ys : List SheetLine) (s t : State)
    → Alike (state_of one) (state_of other) → SameAsked b c
    → Closes (state_of one) b xs s → Closes (state_of other) c ys t → Agree xs ys s t
