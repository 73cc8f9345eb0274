use Rattle.std.proofs.Common.{◌≡◌, ℕ, ◌<◌, length, get_or, pos}
use Rattle.credit.specs.Net.{net}
use Rattle.credit.proofs.net.net_positions.Given as goal

abbrev pub invariant-loop-member : goal.invariant-loop-member
invariant-loop-member l = (length l.net-items ≡ 64) × ((k : ℕ) → k < l.member → get_or l.net-items k (pos 0) ≡ net k l.lines)
