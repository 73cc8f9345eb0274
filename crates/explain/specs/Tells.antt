-- A line of a sheet as a sentence, and a sheet as sentences.
use Rattle.std.specs.Prelude.{ℕ, cond, List, [], ◌∷◌, ◌++◌, Some, None, codes, decimal, Option, ◌==◌}
use Rattle.std.specs.List.{flat_map}
use Rattle.std.specs.Result.{result_ok}
use Rattle.batch.specs.declared.form.Form.{Form}
use Rattle.batch.specs.declared.form.Form.TheVariants.{Try}
use Rattle.batch.specs.declared.reader.Step.{Step}
use Rattle.batch.specs.declared.sheet.SheetLine.{SheetLine}
use Rattle.batch.specs.declared.sheet.SheetLine.TheVariants.{Done, Kept, Undone, Refused, Net, Debt, End}
use Rattle.explain.specs.Asks.{lead_of}
use Rattle.explain.specs.Denials.{denial_of}
use Rattle.explain.specs.Standings.{balance_of, owing_of}

-- what became of a form that was carried out
abbrev pub outcome_of : Option Form → List ℕ
outcome_of (Some (Try pay)) = codes "it can"
outcome_of form = codes "done"

-- a line of a sheet, with the form of the batch line that it answers
abbrev pub sentence_of : Option Form → SheetLine → List ℕ
sentence_of form (Done l) = lead_of l form ++ (outcome_of form ++ codes ".")
sentence_of form (Kept l) = codes "Line " ++ (decimal l ++ codes ": the group of payments is kept.")
sentence_of form (Undone l) = codes "Line " ++ (decimal l ++ codes ": the group of payments is undone.")
sentence_of form (Refused l e) = denial_of l form e
sentence_of form (Net m n) = balance_of m n
sentence_of form (Debt a b d) = owing_of a b d
sentence_of form End = codes "End of the sheet."

-- the form of the batch line with a number, where there is such a line and it is a form
abbrev pub form_at : ℕ → List Step → Option Form
form_at n [] = None
form_at n (s ∷ ss) = cond (s.line == n) (result_ok s.form) (form_at n ss)

-- the form of the batch line that a sheet line names
abbrev pub form_for : List Step → SheetLine → Option Form
form_for ss (Done l) = form_at l ss
form_for ss (Kept l) = form_at l ss
form_for ss (Undone l) = form_at l ss
form_for ss (Refused l e) = form_at l ss
form_for ss x = None

-- a sheet as sentences, each with a line feed
abbrev pub explained : List Step → List SheetLine → List ℕ
explained ss = flat_map (λ x. sentence_of (form_for ss x) x ++ (10 ∷ []))
