use Rattle.std.proofs.Common.{◌≡◌, ℕ, ◌+◌, ◌-◌, ◌<◌, ◌≤◌, length, get_or, drop, pos}
use Rattle.std.specs.Slice.Iter.{windows_rest, windows_size}
use Rattle.lists.specs.Lists.{listed}
use Rattle.search.specs.Answers.{steps}
use Rattle.filling.specs.Fillings.{no_hop, Over}
use Rattle.filling.proofs.booked.Booked.hops.Given as goal

abbrev pub invariant-loop-pair : goal.invariant-loop-pair
invariant-loop-pair l = record {
  size : windows_size l.pair-iterator ≡ 2;
  rest : windows_rest l.pair-iterator ≡ drop (length (listed l.chain.members) - length (windows_rest l.pair-iterator)) (listed l.chain.members);
  fits : length (listed l.chain.members) ≤ 64;
  count : length l.hops.items + length (windows_rest l.pair-iterator) ≡ length (listed l.chain.members);
  short : length l.hops.items ≤ steps l.chain;
  over : (k : ℕ) → k < length l.hops.items → Over l.self (pos l.least) (listed l.chain.members) k (get_or l.hops.items k no_hop);
}
