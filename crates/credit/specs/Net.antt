-- The bounds of a line, and net positions.
use Rattle.std.specs.Prelude.{ℕ, Bool, ◌&&◌, List, map, ℤ, pos, ◌-ℤ◌, neg_ℤ, ◌==◌, int_le, nat_lt}
use Rattle.std.specs.List.{range_with_len}
use Rattle.credit.specs.declared.line.Line.{Line}
use Rattle.credit.specs.Sums.{sum_z, only}

-- what a list of lines is read as past its end
abbrev pub no_line : Line
no_line = record { a = 0; b = 0; trust_a = pos 0; trust_b = pos 0; debt = pos 0 }

-- a trust, 0 to 1,000,000
abbrev pub in_trust : ℤ → Bool
in_trust t = int_le (pos 0) t && int_le t (pos 1000000)

-- the bounds of a line's ends and trusts
abbrev pub framed : Line → Bool
framed l = nat_lt l.a l.b && (nat_lt l.b 64 && (in_trust l.trust_a && in_trust l.trust_b))

-- its debt is from minus the one trust to the other
abbrev pub affordable : Line → Bool
affordable l = int_le (neg_ℤ l.trust_b) l.debt && int_le l.debt l.trust_a

-- the bounds that every line of a ledger keeps
abbrev pub bounded : Line → Bool
bounded l = framed l && affordable l

-- what a line brings to a member: its debt where it is a, minus it where it is b
abbrev pub share : ℕ → Line → ℤ
share m l = only (m == l.a) l.debt -ℤ only (m == l.b) l.debt

-- a member's net position
abbrev pub net : ℕ → List Line → ℤ
net m ls = sum_z (share m) ls

-- the net positions of members 0 to 63
abbrev pub net_table : List Line → List ℤ
net_table ls = map (λ m. net m ls) (range_with_len 0 64)
