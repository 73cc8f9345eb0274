use Rattle.std.proofs.Common.{arith}
use Rattle.lists.specs.Lists.{listed}
use Rattle.rings.proofs.Clearing.{reached_then, reached_keeps, reached_one, over_nearer}
use Rattle.rings.proofs.tidy.clear.Goals as goal

pub loop-chain-smaller : goal.loop-chain-smaller
loop-chain-smaller c =
    let v = c.loop-chain.invariant in
    over_nearer c.loop-chain.lines c.cancel.new.lines c.args.i (listed c.in-Some.chain.members) c.cancel.result v.pairs v.bounds (omega arith) c.in-Some.ensures c.cancel.ensures.ring c.cancel.ensures.lowered

pub loop-chain-preserved : goal.loop-chain-preserved
loop-chain-preserved c =
    let v = c.loop-chain.invariant in
    let r = reached_one c.loop-chain.lines c.cancel.new.lines (listed c.in-Some.chain.members) c.cancel.result c.cancel.ensures.ring c.cancel.ensures.lowered in
    let k = reached_keeps c.loop-chain.lines c.cancel.new.lines v.pairs v.bounds r in
    record { reached = reached_then c.args.lines.now c.loop-chain.lines c.cancel.new.lines v.reached r; bounds = k.bounds; pairs = k.pairs }
