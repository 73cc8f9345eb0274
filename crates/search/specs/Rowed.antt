-- A graph kept as rows: row m is the group of those whom member m reaches in one step.
use Rattle.std.specs.Prelude.{ℕ, Bool, slice_index_or}
use Rattle.members.specs.declared.group.Group.{Group}
use Rattle.members.specs.Groups.{inside}
use Rattle.search.specs.declared.rows.Rows.{Rows}

abbrev pub nobody : Group
nobody = record { bits = 0 }

-- whether one step leads from m to n
abbrev pub reaches : Rows → ℕ → ℕ → Bool
reaches rows m n = inside (slice_index_or rows.sets m nobody).bits n
