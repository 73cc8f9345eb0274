-- Where a batch under way stands, and what a line of it gives.
use Rattle.std.specs.Prelude.{true, false}
use Rattle.std.specs.declared.ops.ControlFlow.{ControlFlow}
use Rattle.std.specs.ControlFlow.{MatchControlFlow}
use Rattle.ledger.specs.States.{state_of}
use Rattle.batch.specs.declared.reader.Step.{Step}
use Rattle.batch.specs.declared.sheet.SheetLine.{SheetLine}
use Rattle.closing.specs.declared.run.Run.{Run}
use Rattle.closing.specs.Marked.{marks_of}
use Rattle.closing.specs.Fairs.{Fair}
use Rattle.closing.specs.Carries.{Place, at, Stepped}

-- the ledger of a run, and the lines of the `(all` of its open groups
abbrev pub place_of : {R : Type 0} → Run R → Place
place_of run = at (state_of run.ledger.now) (marks_of run.marks)

-- what holds between the lines of a batch
abbrev pub IsFair : {R : Type 0} → Run R → Type 0
IsFair run = Fair (state_of run.ledger.now) (marks_of run.marks)

-- the line of the sheet for a line of the batch, as a `Break` where it ends the batch
abbrev pub Steps : Step → Place → ControlFlow SheetLine SheetLine → Place → Type 0
Steps step from flow to = MatchControlFlow flow (λ x. Stepped step.form step.line from x false to) (λ x. Stepped step.form step.line from x true to)
