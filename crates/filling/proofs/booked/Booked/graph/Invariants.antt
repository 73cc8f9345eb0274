use Rattle.std.proofs.Common.{◌≡◌, ℕ, length, take, pos}
use Rattle.search.specs.Rowed.{reaches}
use Rattle.filling.proofs.Rowing.{any_leads}
use Rattle.filling.proofs.booked.Booked.graph.Given as goal

abbrev pub invariant-loop-line : goal.invariant-loop-line
invariant-loop-line l = (m n : ℕ) → reaches l.rows m n ≡ any_leads (take (length l.yielded) l.self) (pos l.least) m n
