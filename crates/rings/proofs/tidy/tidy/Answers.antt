use Rattle.std.proofs.Common.{arith}
use Rattle.rings.proofs.Clearing.{reached_then, reached_keeps, cleared_more}
use Rattle.rings.proofs.tidy.tidy.Goals as goal

pub loop-i-preserved : goal.loop-i-preserved
loop-i-preserved c =
    let v = c.loop-i.invariant in
    let e = c.clear.ensures in
    let r = reached_then c.args.lines.now c.loop-i.lines c.clear.new.lines v.reached e.reached in
    record {
      reached = r;
      keeps = reached_keeps c.args.lines.now c.clear.new.lines c.requires.pairs c.requires.bounds r;
      cleared = cleared_more c.args.lines.now c.loop-i.lines c.clear.new.lines c.loop-i.i c.requires.pairs c.requires.bounds v.reached (omega arith) v.cleared e.reached e.clear;
    }
