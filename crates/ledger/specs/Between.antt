-- The line between two members, and the debt on it.
use Rattle.std.specs.Prelude.{ℕ, cond, not, ◌&&◌, List, length, ℤ, neg_ℤ, Some, None, Option, ◌==◌, nat_le}
use Rattle.std.specs.List.{find}
use Rattle.credit.specs.declared.line.Line.{Line}
use Rattle.credit.specs.declared.refusal.Refusal.TheVariants.{NoSuchMember, SameMember, OutOfRange, PairHasLine, TooManyLines}
use Rattle.credit.specs.Refusals.{Verdict, passes, check}
use Rattle.credit.specs.Net.{in_trust}
use Rattle.credit.specs.Pairs.{joins, joined}
use Rattle.routing.specs.Meaning.{not_members}

-- the line that joins two members; at most one does
abbrev pub line_between : ℕ → ℕ → List Line → Option Line
line_between x y ls = find (joins x y) ls

-- what the other member of a line owes x
abbrev pub owed_to : ℕ → Line → ℤ
owed_to x l = cond (x == l.a) l.debt (neg_ℤ l.debt)

abbrev pub debt_on : ℕ → Option Line → Option ℤ
debt_on x None = None
debt_on x (Some l) = Some (owed_to x l)

-- what y owes x; absent when no line joins them
abbrev pub debt_between : ℕ → ℕ → List Line → Option ℤ
debt_between x y ls = debt_on x (line_between x y ls)

-- of a new line, the checks on its arguments and on the lines that there are
abbrev pub line_checks : List Line → ℕ → ℕ → ℤ → ℤ → Verdict
line_checks ls x y t u =
    check (not_members x y) NoSuchMember
    (check (x == y) SameMember
    (check (not (in_trust t && in_trust u)) OutOfRange
    (check (joined x y ls) PairHasLine
    (check (nat_le 256 (length ls)) TooManyLines
    passes))))
