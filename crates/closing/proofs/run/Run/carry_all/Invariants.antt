use Rattle.std.proofs.Common.{◌≡◌, ◌+◌, ◌≤◌, List, ◌++◌, length, vec_items, vec_len, vec_capacity}
use Rattle.ledger.specs.States.{state_of}
use Rattle.batch.specs.declared.sheet.SheetLine.{SheetLine}
use Rattle.batch.specs.Reads.{left, steps_of}
use Rattle.closing.specs.Marked.{marks_of}
use Rattle.closing.specs.Fairs.{Fair}
use Rattle.closing.specs.Carries.{Place, at, Carries}
use Rattle.closing.proofs.run.Run.carry_all.Given as goal

abbrev pub invariant-loop-step : goal.invariant-loop-step
invariant-loop-step g l = record {
  carries : (more : List SheetLine) (to : Place) → Carries (left l.step-iterator) (at (state_of l.self.ledger.now) (marks_of l.self.marks)) more to
      → Carries (steps_of l.batch) (at (state_of l.initial.self.ledger.now) (marks_of l.initial.self.marks)) (vec_items l.sheet ++ more) to;
  fair : Fair (state_of l.self.ledger.now) (marks_of l.self.marks);
  len : vec_len l.sheet + length (left l.step-iterator) ≤ length l.batch;
  same_reference : l.self.ledger.ghost_name ≡ l.initial.self.ledger.ghost_name;
  capacity : vec_capacity l.sheet ≡ vec_capacity l.initial.sheet;
}
