use Rattle.std.proofs.Common.{◌≡◌, ◌+◌, ◌++◌, take, vec_items, vec_len, vec_capacity}
use Rattle.closing.specs.Statements.{debt_lines}
use Rattle.closing.proofs.statement.add_debts.Given as goal

abbrev pub invariant-loop-line : goal.invariant-loop-line
invariant-loop-line l =
    (vec_items l.sheet ≡ vec_items l.initial.sheet ++ debt_lines (take l.line-index l.lines))
    × (vec_len l.sheet ≡ vec_len l.initial.sheet + l.line-index)
    × (vec_capacity l.sheet ≡ vec_capacity l.initial.sheet)
