-- How a sheet is laid out, in terms of the batch's text.
use Rattle.std.specs.Prelude.{◌≡◌, ℕ, suc, ◌<◌, Bool, true, false, ◌||◌, ◌⊎◌, List, [], ◌∷◌, ◌++◌, length, Ok, Err, Result, ◌==◌}
use Rattle.credit.specs.declared.refusal.Refusal.{Refusal}
use Rattle.credit.specs.declared.refusal.Refusal.TheVariants.{LeftOpen}
use Rattle.credit.specs.Refusals.{Verdict, number_of}
use Rattle.ledger.specs.States.{State}
use Rattle.batch.specs.declared.form.Form.{Form}
use Rattle.batch.specs.declared.form.Form.TheVariants.{All}
use Rattle.batch.specs.declared.reader.Step.{Step}
use Rattle.batch.specs.declared.sheet.SheetLine.{SheetLine}
use Rattle.batch.specs.declared.sheet.SheetLine.TheVariants.{Done, Kept, Undone, Refused, Net, Debt, End}
use Rattle.batch.specs.Reads.{steps_of}
use Rattle.closing.specs.Statements.{statement}
use Rattle.closing.specs.Closes.{door_checks}

-- the line of the batch that a sheet line speaks of; 0 where it speaks of none
abbrev pub line_of : SheetLine → ℕ
line_of (Done l) = l
line_of (Kept l) = l
line_of (Undone l) = l
line_of (Refused l e) = l
line_of (Net m n) = 0
line_of (Debt a b d) = 0
line_of End = 0

-- the number of the refusal that it tells; 0 where it tells none
abbrev pub refusal_of : SheetLine → ℕ
refusal_of (Done l) = 0
refusal_of (Kept l) = 0
refusal_of (Undone l) = 0
refusal_of (Refused l e) = number_of e
refusal_of (Net m n) = 0
refusal_of (Debt a b d) = 0
refusal_of End = 0

-- a line that is no form ends the batch, and so do the refusals 13 and 14
abbrev pub is_last : Result Form Refusal → SheetLine → Bool
is_last (Err e) x = true
is_last (Ok f) x = refusal_of x == 13 || refusal_of x == 14

abbrev pub Unless : Bool → (List SheetLine → Type 0) → List SheetLine → Type 0
Unless true rest xs = xs ≡ []
Unless false rest xs = rest xs

-- one sheet line for each line of the batch, numbered by it, and none after one that ends the batch
abbrev pub Answers : List Step → List SheetLine → Type 0
Answers [] xs = xs ≡ []
Answers (step ∷ steps) xs =
    (x : SheetLine) × (more : List SheetLine) × (xs ≡ x ∷ more) × (line_of x ≡ step.line) × Unless (is_last step.form x) (Answers steps) more

-- the line l of the batch is `(all`
abbrev pub BeginsAt : List Step → ℕ → Type 0
BeginsAt [] l = ⊥
BeginsAt (step ∷ steps) l = ((step.line ≡ l) × (step.form ≡ Ok All)) ⊎ BeginsAt steps l

-- the groups that were left open, named by the lines of their `(all`, the later first; each below a bound
abbrev pub LeftGroups : List Step → ℕ → List SheetLine → Type 0
LeftGroups steps bound [] = Unit {0}
LeftGroups steps bound (x ∷ xs) =
    (l : ℕ) × (x ≡ Refused l LeftOpen) × (l < bound) × BeginsAt steps l × LeftGroups steps l xs

-- past its door: an answer for each line, the groups that were left open, and the statement of the ledger after it
pub record Parts (batch : List ℕ) (sheet : List SheetLine) (s : State) : Type 0 where
  pub answers : List SheetLine
  pub left : List SheetLine
  pub are : sheet ≡ answers ++ (left ++ statement s.lines)
  pub answered : Answers (steps_of batch) answers
  pub abandoned : LeftGroups (steps_of batch) (suc (length answers)) left

abbrev pub LaidBy : Verdict → List ℕ → List SheetLine → State → Type 0
LaidBy (Err e) batch sheet s' = sheet ≡ Refused 0 e ∷ []
LaidBy (Ok u) batch sheet s' = Parts batch sheet s'

-- the ledger before, the batch, the sheet and the ledger after
abbrev pub Laid : State → List ℕ → List SheetLine → State → Type 0
Laid s batch sheet s' = LaidBy (door_checks s batch) batch sheet s'
