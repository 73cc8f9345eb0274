-- The statement at the end of a sheet.
use Rattle.std.specs.Prelude.{ℕ, Bool, cond, ◌||◌, List, [], ◌∷◌, ◌++◌, map, ◌==◌}
use Rattle.std.specs.List.{range_with_len, list_any, flat_map}
use Rattle.credit.specs.declared.line.Line.{Line}
use Rattle.credit.specs.Net.{net}
use Rattle.batch.specs.declared.sheet.SheetLine.{SheetLine}
use Rattle.batch.specs.declared.sheet.SheetLine.TheVariants.{Net, Debt, End}

-- whether a member has a line
abbrev pub on_line : ℕ → Line → Bool
on_line m l = l.a == m || l.b == m

abbrev pub has_line : ℕ → List Line → Bool
has_line m ls = list_any (on_line m) ls

-- a member's net position, if it has a line
abbrev pub net_line : List Line → ℕ → List SheetLine
net_line ls m = cond (has_line m ls) (Net m (net m ls) ∷ []) []

-- the net positions of members that have a line, in the order of the members
unfoldable pub net_lines : List Line → List ℕ → List SheetLine
net_lines ls ms = flat_map (net_line ls) ms

-- the debt of each line, in opening order
abbrev pub debt_line : Line → SheetLine
debt_line l = Debt l.a l.b l.debt

abbrev pub debt_lines : List Line → List SheetLine
debt_lines ls = map debt_line ls

-- net positions, debts, and the end
unfoldable pub statement : List Line → List SheetLine
statement ls = net_lines ls (range_with_len 0 64) ++ (debt_lines ls ++ (End ∷ []))
