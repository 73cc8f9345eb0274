-- What a ledger means: its lines, the open groups of payments, and the standing reservation.
use Rattle.std.specs.Prelude.{Bool, List, [], map, reverse, ℤ, None, vec_items, Option}
use Rattle.lists.specs.Lists.{listed}
use Rattle.credit.specs.declared.line.Line.{Line}
use Rattle.credit.specs.declared.payment.Payment.{Payment}
use Rattle.ledger.specs.declared.state.Savepoint.{Savepoint}
use Rattle.ledger.specs.declared.state.Ledger.{Ledger}

-- an open group of payments: the debts as at its begin, and whether it is spoiled
pub record OpenGroup : Type 0 where
  pub saved : List ℤ
  pub spoiled : Bool

-- the lines in opening order; the open groups, the inmost first; the payment for which a reservation stands
pub record State : Type 0 where
  pub lines : List Line
  pub groups : List OpenGroup
  pub standing : Option Payment

-- a new ledger
abbrev pub fresh : State
fresh = record { lines = []; groups = []; standing = None }

abbrev pub open_group : Savepoint → OpenGroup
open_group sp = record { saved = listed sp.debts; spoiled = sp.spoiled }

abbrev pub state_of : Ledger → State
state_of l = record {
  lines = vec_items l.lines;
  groups = map open_group (reverse (vec_items l.savepoints));
  standing = l.standing;
}

abbrev pub with_lines : State → List Line → State
with_lines s ls = record { lines = ls; groups = s.groups; standing = s.standing }

abbrev pub with_groups : State → List OpenGroup → State
with_groups s gs = record { lines = s.lines; groups = gs; standing = s.standing }

abbrev pub with_standing : State → Option Payment → State
with_standing s st = record { lines = s.lines; groups = s.groups; standing = st }
