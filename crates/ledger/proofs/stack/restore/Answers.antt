use Rattle.std.proofs.Common.{get_or, pos, sym, ◌∙◌, arith, w32, SFits, rules}
use Rattle.std.proofs.lemmas.Int.{to_z-of_z}
use Rattle.credit.specs.Net.{no_line}
use Rattle.ledger.proofs.Restores.{overlay_none, overlay_more, overlay_all}
use Rattle.ledger.proofs.stack.restore.Goals as goal

pub loop-i-init : goal.loop-i-init
loop-i-init c = sym (overlay_none c.args.lines.now)

pub loop-i-preserved : goal.loop-i-preserved
loop-i-preserved c =
    let xs = c.args.saved.now in
    let i = c.loop-i.i in
    let f : SFits w32 (get_or xs i (pos 0)) = search rules in
    let z = to_z-of_z w32 (get_or xs i (pos 0)) f in
    let more = overlay_more c.args.lines.now xs i no_line (pos 0) c.loop-i-test.true (omega arith) in
    cc

pub returns : goal.returns
returns c = c.loop-i.invariant ∙ overlay_all c.args.lines.now c.args.saved.now c.loop-i.i c.loop-i-test.false (omega arith)
