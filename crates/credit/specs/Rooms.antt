-- Rooms (residual capacities) of lines and of groups, and trust between members.
use Rattle.std.specs.Prelude.{ℕ, Bool, true, false, not, List, ℤ, pos, ◌+ℤ◌, ◌-ℤ◌, ◌==◌}
use Rattle.members.specs.Groups.{inside}
use Rattle.credit.specs.declared.line.Line.{Line}
use Rattle.credit.specs.Sums.{sum_z, members, only}

-- a line's room from a to b, and from b to a
abbrev pub room_onward : Line → ℤ
room_onward l = l.debt +ℤ l.trust_b

abbrev pub room_back : Line → ℤ
room_back l = l.trust_a -ℤ l.debt

-- a line's room out of a group: by whether a and b are inside
abbrev pub line_room : Bool → Bool → Line → ℤ
line_room true true l = pos 0
line_room true false l = room_onward l
line_room false true l = room_back l
line_room false false l = pos 0

-- what a line brings to the room of a group
abbrev pub room_out : ℕ → Line → ℤ
room_out g l = line_room (inside g l.a) (inside g l.b) l

-- the room of a group: the rooms of all lines from an insider to an outsider
abbrev pub room : ℕ → List Line → ℤ
room g ls = sum_z (room_out g) ls

-- how far member i trusts member j on a line: the most that j may owe i there
abbrev pub line_trust : ℕ → ℕ → Line → ℤ
line_trust i j l = only (i == l.a) (only (j == l.b) l.trust_a) +ℤ only (i == l.b) (only (j == l.a) l.trust_b)

abbrev pub trust : ℕ → ℕ → List Line → ℤ
trust i j ls = sum_z (line_trust i j) ls

-- the trust that outsiders give insiders, over a table of trusts
abbrev pub trust_into : ℕ → (ℕ → ℕ → ℤ) → ℤ
trust_into g t = members 64 (λ i. members 64 (λ j. only (not (inside g i)) (only (inside g j) (t i j))))

-- the insiders' net positions together, over a table of net positions
abbrev pub net_inside : ℕ → (ℕ → ℤ) → ℤ
net_inside g n = members 64 (λ m. only (inside g m) (n m))
