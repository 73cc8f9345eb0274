-- Steps between members over lines with enough room. The lines are those after a plan.
use Rattle.std.specs.Prelude.{◌≡◌, ℕ, ◌<◌, Bool, true, ◌&&◌, List, length, ℤ, int_le, slice_index_or}
use Rattle.credit.specs.declared.line.Line.{Line}
use Rattle.credit.specs.Net.{no_line}
use Rattle.credit.specs.Pairs.{joins}
use Rattle.credit.specs.Plans.{room_from}

-- the line leads from m to n with room of at least so much
abbrev pub leads : Line → ℤ → (m n : ℕ) → Bool
leads l least m n = joins m n l && int_le least (room_from l m)

-- line i is such a line
abbrev pub LeadsAt : List Line → ℤ → (m n i : ℕ) → Type 0
LeadsAt ls least m n i = (i < length ls) × (leads (slice_index_or ls i no_line) least m n ≡ true)

-- some line is
abbrev pub RoomStep : List Line → ℤ → (m n : ℕ) → Type 0
RoomStep ls least m n = (i : ℕ) × LeadsAt ls least m n i
