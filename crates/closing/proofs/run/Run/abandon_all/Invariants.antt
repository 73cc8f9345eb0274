use Rattle.std.proofs.Common.{◌≡◌, ◌+◌, ◌≤◌, List, vec_items, vec_len, vec_capacity}
use Rattle.ledger.specs.States.{State, state_of}
use Rattle.batch.specs.declared.sheet.SheetLine.{SheetLine}
use Rattle.arrayvec.specs.ArrayVec.{array_vec_len}
use Rattle.closing.specs.Fairs.{Fair}
use Rattle.closing.specs.Closes.{Ended}
use Rattle.closing.specs.Marked.{marks_of}
use Rattle.closing.proofs.run.Run.abandon_all.Given as goal

abbrev pub invariant-loop-line : goal.invariant-loop-line
invariant-loop-line g l = record {
  ended : (after : List SheetLine) (to : State) → Ended (marks_of l.self.marks) (state_of l.self.ledger.now) (vec_items l.sheet) after to
      → Ended (marks_of l.initial.self.marks) (state_of l.initial.self.ledger.now) (vec_items l.initial.sheet) after to;
  fair : Fair (state_of l.self.ledger.now) (marks_of l.self.marks);
  len : vec_len l.sheet + array_vec_len l.self.marks ≤ vec_len l.initial.sheet + 8;
  same_reference : l.self.ledger.ghost_name ≡ l.initial.self.ledger.ghost_name;
  capacity : vec_capacity l.sheet ≡ vec_capacity l.initial.sheet;
}

abbrev pub decreases-loop-line : goal.decreases-loop-line
decreases-loop-line g l = array_vec_len l.self.marks
