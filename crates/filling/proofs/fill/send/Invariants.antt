use Rattle.std.proofs.Common.{◌≡◌, ℕ, ◌<◌, ◌≤◌, length, get_or, take, pos}
use Rattle.filling.specs.Fillings.{no_hop, sent_along}
use Rattle.filling.proofs.fill.send.Given as goal

-- what is still ahead is as it was
abbrev pub invariant-loop-hop : goal.invariant-loop-hop
invariant-loop-hop l = record {
  sent : l.plan ≡ sent_along l.lines (take l.hop-index l.hops) l.x l.initial.plan;
  ahead : (k : ℕ) → l.hop-index ≤ k → k < length l.hops → get_or l.plan (get_or l.hops k no_hop).place (pos 0) ≡ get_or l.initial.plan (get_or l.hops k no_hop).place (pos 0);
}
