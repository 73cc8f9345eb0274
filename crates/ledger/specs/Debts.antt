-- The debts of lines, and lines with other debts.
use Rattle.std.specs.Prelude.{List, [], ◌∷◌, map, ℤ, pos}
use Rattle.credit.specs.declared.line.Line.{Line}
use Rattle.credit.specs.Plans.{with_debt}

abbrev pub debts : List Line → List ℤ
debts ls = map (λ l. l.debt) ls

-- the lines with other debts, 0 where none is given
abbrev pub with_debts : List Line → List ℤ → List Line
with_debts [] ds = []
with_debts (l ∷ ls) [] = with_debt l (pos 0) ∷ with_debts ls []
with_debts (l ∷ ls) (d ∷ ds) = with_debt l d ∷ with_debts ls ds
