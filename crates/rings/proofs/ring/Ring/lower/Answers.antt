use Rattle.std.proofs.Common.{ℤ, refl, ap, ◌∙◌, arith, w32, to_z, of_z}
use Rattle.std.proofs.lemmas.Int.{to_z-of_z}
use Rattle.rings.specs.Rings.{steps, cancel}
use Rattle.rings.specs.Parties.{party}
use Rattle.rings.proofs.Stepping.{apart_once}
use Rattle.rings.proofs.Lowering.{lowering_more, lowering_all}
use Rattle.rings.proofs.ring.Ring.lower.Goals as goal

pub loop-line-preserved : goal.loop-line-preserved
loop-line-preserved c =
    lowering_more (party c.args.self.now) (to_z w32 (of_z w32 c.args.by)) (to_z w32 (of_z w32 c.args.by)) c.args.lines.now c.loop-line.lines c.loop-line.line-index c.lowered.result (apart_once (party c.args.self.now) c.requires.apart) refl (omega arith) c.loop-line.invariant c.lowered.ensures

pub returns : goal.returns
returns c =
    lowering_all (party c.args.self.now) (to_z w32 (of_z w32 c.args.by)) c.args.lines.now c.loop-line.lines c.loop-line.line-index (omega arith) c.loop-line.invariant
    ∙ ap (λ (v : ℤ). cancel (steps (party c.args.self.now)) v c.args.lines.now) (to_z-of_z w32 c.args.by c.ranges.by)
