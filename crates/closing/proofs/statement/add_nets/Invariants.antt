use Rattle.std.proofs.Common.{◌≡◌, ◌+◌, ◌≤◌, ◌++◌, map, length, vec_items, vec_len, vec_capacity}
use Rattle.closing.specs.Statements.{net_lines}
use Rattle.closing.proofs.statement.add_nets.Given as goal

abbrev pub invariant-loop-member : goal.invariant-loop-member
invariant-loop-member l = record {
  items : vec_items l.sheet ≡ vec_items l.initial.sheet ++ net_lines l.lines (map (λ p. p.0) l.yielded);
  len : vec_len l.sheet ≤ vec_len l.initial.sheet + length l.yielded;
  capacity : vec_capacity l.sheet ≡ vec_capacity l.initial.sheet;
}
