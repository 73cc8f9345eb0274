-- Numbers as a batch writes them.
use Rattle.std.specs.Prelude.{ℕ, ◌+◌, ◌-◌, ◌*◌, Bool, cond, not, ◌&&◌, List, [], ◌∷◌, length, Some, None, Option, ◌==◌, nat_le, slice_index}
use Rattle.std.specs.Char.{is_ascii_digit}

-- the number that the digits bs write, read on from n; none where a byte is no digit
abbrev pub read_on : ℕ → List ℕ → Option ℕ
read_on n [] = Some n
read_on n (c ∷ cs) = cond (is_ascii_digit c) (read_on (n * 10 + (c - 48)) cs) None

-- 1 to 7 bytes, and the first is no zero unless it stands alone
abbrev pub shaped : List ℕ → Bool
shaped bs = nat_le 1 (length bs) && (nat_le (length bs) 7 && not (slice_index bs 0 == 48 && nat_le 2 (length bs)))

abbrev pub numeral_of : List ℕ → Option ℕ
numeral_of bs = cond (shaped bs) (read_on 0 bs) None
