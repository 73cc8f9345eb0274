-- What holds between the lines of a batch.
use Rattle.std.specs.Prelude.{◌≡◌, ℕ, List, length, None}
use Rattle.ledger.specs.States.{State}

-- no reservation stands, and there is a mark for each open group
pub record Fair (s : State) (marks : List ℕ) : Type 0 where
  pub free : s.standing ≡ None
  pub even : length marks ≡ length s.groups
