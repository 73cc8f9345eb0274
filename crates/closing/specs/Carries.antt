-- What the lines of a batch do to a ledger, and what the sheet says of them.
use Rattle.std.specs.Prelude.{◌≡◌, ℕ, Bool, true, false, cond, ◌||◌, List, [], ◌∷◌, Ok, Err, Result, ◌==◌}
use Rattle.credit.specs.declared.refusal.Refusal.{Refusal}
use Rattle.credit.specs.Refusals.{number_of}
use Rattle.calls.specs.declared.call.Call.TheVariants.{Open, Pay as PayCall, Reserve, Release, Begin, End, Tidy as TidyCall}
use Rattle.calls.specs.declared.call.Answer.{Answer}
use Rattle.calls.specs.declared.call.Answer.TheVariants.{Done, Reserved, Released, Kept, Undone, Refused}
use Rattle.ledger.specs.States.{State}
use Rattle.ledger.specs.Calls.{Does}
use Rattle.batch.specs.declared.form.Form.{Form}
use Rattle.batch.specs.declared.form.Form.TheVariants.{Line, Pay, Try, Tidy, Route, All, Close}
use Rattle.batch.specs.declared.form.Choice.{Choice}
use Rattle.batch.specs.declared.reader.Step.{Step}
use Rattle.batch.specs.declared.sheet.SheetLine.{SheetLine}
use Rattle.batch.specs.declared.sheet.SheetLine.TheVariants.{Done as DoneLine, Kept as KeptLine, Undone as UndoneLine, Refused as RefusedLine}

-- what an answer is on the sheet, for the form of line l
abbrev pub printed : ℕ → Answer → SheetLine
printed l Done = DoneLine l
printed l (Reserved pay) = DoneLine l
printed l (Released b) = DoneLine l
printed l Kept = KeptLine l
printed l Undone = UndoneLine l
printed l (Refused e) = RefusedLine l e

-- a reservation that was handed out is released; a refused one leaves all as it was
abbrev pub LetGo : Answer → State → State → Type 0
LetGo Done s s' = ⊥
LetGo (Reserved pay) s s' = Does s (Release pay) (Released true) s'
LetGo (Released b) s s' = ⊥
LetGo Kept s s' = ⊥
LetGo Undone s s' = ⊥
LetGo (Refused e) s s' = s' ≡ s

-- one form carried out: the ledger before, the answer, the ledger after
abbrev pub Serves : State → Form → Answer → State → Type 0
Serves s (Line x y t u) r s' = Does s (Open x y t u) r s'
Serves s (Pay pay) r s' = Does s (PayCall 256 pay) r s'
Serves s (Try pay) r s' = (held : State) × Does s (Reserve 256 pay) r held × LetGo r held s'
Serves s Tidy r s' = Does s TidyCall r s'
Serves s (Route c) r s' = (r ≡ Done) × (s' ≡ s)
Serves s All r s' = Does s Begin r s'
Serves s Close r s' = Does s End r s'

-- a form that picks a router: from then on that one serves
abbrev pub Picking : Form → Choice → Type 0
Picking (Line x y t u) c = Unit {0}
Picking (Pay pay) c = Unit {0}
Picking (Try pay) c = Unit {0}
Picking Tidy c = Unit {0}
Picking (Route d) c = c ≡ d
Picking All c = Unit {0}
Picking Close c = Unit {0}

-- which router is picked before a form and after it: a form that picks one has it serve from then on, and one that asks no
-- router changes nothing
abbrev pub NextPick : Form → Choice → Choice → Type 0
NextPick (Line x y t u) before after = after ≡ before
NextPick (Pay pay) before after = Unit {0}
NextPick (Try pay) before after = Unit {0}
NextPick Tidy before after = after ≡ before
NextPick (Route c) before after = after ≡ c
NextPick All before after = after ≡ before
NextPick Close before after = after ≡ before

-- an answer that ends the batch: eight groups are open, or none is
abbrev pub ends : Answer → Bool
ends Done = false
ends (Reserved pay) = false
ends (Released b) = false
ends Kept = false
ends Undone = false
ends (Refused e) = number_of e == 13 || number_of e == 14

abbrev pub accepted : Answer → Bool
accepted Done = true
accepted (Reserved pay) = true
accepted (Released b) = true
accepted Kept = true
accepted Undone = true
accepted (Refused e) = false

abbrev pub drop_first : List ℕ → List ℕ
drop_first [] = []
drop_first (l ∷ ls) = ls

-- the lines of the `(all` of the open groups, the inmost first, once the form of line l is carried out
abbrev pub marks_by : Form → ℕ → List ℕ → List ℕ
marks_by (Line x y t u) l marks = marks
marks_by (Pay pay) l marks = marks
marks_by (Try pay) l marks = marks
marks_by Tidy l marks = marks
marks_by (Route c) l marks = marks
marks_by All l marks = l ∷ marks
marks_by Close l marks = drop_first marks

abbrev pub marks_after : Form → Answer → ℕ → List ℕ → List ℕ
marks_after f r l marks = cond (accepted r) (marks_by f l marks) marks

-- where a batch stands: the ledger, and the lines of the `(all` of its open groups
pub record Place : Type 0 where
  pub state : State
  pub marks : List ℕ

abbrev pub at : State → List ℕ → Place
at s marks = record { state = s; marks = marks }

-- One line of the batch: what the sheet says of it, whether it ends the batch, and where the batch then stands. A text
-- that is no form ends it.
abbrev pub Stepped : Result Form Refusal → ℕ → Place → SheetLine → Bool → Place → Type 0
Stepped (Err e) l from x over to = (x ≡ RefusedLine l e) × (over ≡ true) × (to ≡ from)
Stepped (Ok f) l from x over to =
    (r : Answer) × Serves from.state f r to.state × (x ≡ printed l r) × (over ≡ ends r) × (to.marks ≡ marks_after f r l from.marks)

-- after a line that ends the batch nothing more is carried out
abbrev pub After : Bool → (Place → List SheetLine → Place → Type 0) → Place → List SheetLine → Place → Type 0
After true rest from sheet to = (sheet ≡ []) × (to ≡ from)
After false rest from sheet to = rest from sheet to

-- the lines are carried out in order, until none is left or one ends the batch; the sheet has one line for each
abbrev pub Carries : List Step → Place → List SheetLine → Place → Type 0
Carries [] from sheet to = (sheet ≡ []) × (to ≡ from)
Carries (step ∷ steps) from sheet to =
    (x : SheetLine) × (over : Bool) × (next : Place) × (more : List SheetLine)
    × Stepped step.form step.line from x over next × (sheet ≡ x ∷ more) × After over (Carries steps) next more to
