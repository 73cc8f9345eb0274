use Rattle.std.proofs.Common.{◌≡◌, take, string_bytes}
use Rattle.batch.specs.Sheets.{sheet_text}
use Rattle.batch.proofs.text.sheet_text.Given as goal

abbrev pub invariant-loop-line : goal.invariant-loop-line
invariant-loop-line l = string_bytes l.text ≡ sheet_text (take l.line-index l.sheet)
