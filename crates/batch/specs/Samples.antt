-- Worked examples of forms and of sheet lines.
use Rattle.std.specs.Prelude.{◌≡◌, [], ◌∷◌, ◌++◌, pos, negsuc, Ok, Err, codes}
use Rattle.credit.specs.declared.refusal.Refusal.TheVariants.{UnknownForm, WrongParts, NotANumber, LeftOpen, WantOfRoom}
use Rattle.batch.specs.declared.form.Form.TheVariants.{Line}
use Rattle.batch.specs.declared.sheet.SheetLine.TheVariants.{Refused, Debt}
use Rattle.batch.specs.Forms.{form_of}
use Rattle.batch.specs.Reads.{lines_of}
use Rattle.batch.specs.Sheets.{line_text}

pub record Samples : Type 0 where
  pub leading_zero : form_of (codes "(pay 01 2 3)") ≡ Err NotANumber
  pub two_parts : form_of (codes "(pay 1 2)") ≡ Err WrongParts
  pub empty : form_of [] ≡ Err UnknownForm
  pub no_part : form_of (codes "(pay )") ≡ Err WrongParts
  pub no_space : form_of (codes "(pay") ≡ Err UnknownForm
  pub unclosed : form_of (codes "(pay 1 2 3") ≡ Err WrongParts
  pub two_spaces : form_of (codes "(pay 1  3)") ≡ Err NotANumber
  pub line : form_of (codes "(line 1 2 1000000 0)") ≡ Ok (Line 1 2 (pos 1000000) (pos 0))
  pub lines : lines_of (1 ∷ 10 ∷ 10 ∷ 2 ∷ []) ≡ (1 ∷ []) ∷ [] ∷ (2 ∷ []) ∷ []
  pub last_ended : lines_of (1 ∷ 10 ∷ []) ≡ (1 ∷ []) ∷ []
  pub debt : line_text (Debt 1 2 (negsuc 24)) ≡ codes "(debt 1 2 -25)" ++ (10 ∷ [])
  pub left_open : line_text (Refused 7 LeftOpen) ≡ codes "(no 7 18)" ++ (10 ∷ [])
  pub want_of_room : line_text (Refused 5 (WantOfRoom record { bits = 10 } (pos 5))) ≡ codes "(no 5 16 5 1 3)" ++ (10 ∷ [])
