use Rattle.std.proofs.Common.{◌≡◌, ◌-◌, ◌≤◌, length, drop}
use Rattle.std.specs.Slice.Iter.{windows_rest, windows_size}
use Rattle.lists.specs.Lists.{listed}
use Rattle.rings.proofs.Stepping.{Linking}
use Rattle.rings.proofs.ring.Ring.new.Given as goal

-- what is left of the chain, and the steps before it stand in the table
abbrev pub invariant-loop-step : goal.invariant-loop-step
invariant-loop-step l =
    let c = listed l.fn.chain.members in
    let rest = windows_rest l.step-iterator in
    record {
      two : windows_size l.step-iterator ≡ 2;
      some : 1 ≤ length rest;
      short : length rest ≤ length c;
      left : rest ≡ drop (length c - length rest) c;
      linked : Linking c l.creditors (length c - length rest);
    }
