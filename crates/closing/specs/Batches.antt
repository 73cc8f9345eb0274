-- What a closing of a batch promises as a whole.
use Rattle.std.specs.Prelude.{◌≡◌, ℕ, List, MatchResult, Result, Vec, vec_items}
use Rattle.ledger.specs.States.{State}
use Rattle.batch.specs.declared.sheet.SheetLine.{SheetLine}
use Rattle.closing.specs.Closes.{Closes, Settled}
use Rattle.closing.specs.Lays.{Laid}

-- the ledger before, the batch's bytes, the sheet's lines and the ledger after: what was carried out, how the sheet is
-- laid out, and that nothing reaches into the next batch
pub record Closing (s : State) (batch : List ℕ) (sheet : List SheetLine) (s' : State) : Type 0 where
  pub closes : Closes s batch sheet s'
  pub laid : Laid s batch sheet s'
  pub settled : Settled s s'

-- a batch was closed and this is its sheet, or there was no memory for a sheet and the ledger is as it was
abbrev pub ClosesOrStays : {A E : Type 0} → State → List ℕ → Result (Vec SheetLine A) E → State → Type 0
ClosesOrStays s batch result s' = MatchResult result (λ sheet. Closing s batch (vec_items sheet) s') (λ _. s' ≡ s)
