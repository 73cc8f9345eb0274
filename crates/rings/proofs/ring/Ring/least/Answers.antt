use Rattle.std.proofs.Common.{◌+◌, ℤ, sym, subst, inl, inr, arith, w32, SFits, rules}
use Rattle.std.proofs.lemmas.Int.{to_z-of_z}
use Rattle.rings.specs.Parties.{party}
use Rattle.rings.proofs.Lowering.{Least, least_more}
use Rattle.rings.proofs.Clearing.{ring_least}
use Rattle.rings.proofs.ring.Ring.least.Goals as goal

pub loop-line-preserved : goal.loop-line-preserved
loop-line-preserved c =
    let g : SFits w32 c.least_on-least.result = search rules in
    let e = c.least_on-least.ensures in
    subst (λ (v : ℤ). Least (party c.args.self.now) c.args.lines.now (c.loop-line.line-index + 1) v) (sym (to_z-of_z w32 c.least_on-least.result g))
    (least_more (party c.args.self.now) c.args.lines.now c.loop-line.line-index c.loop-line.least _ c.least_on-least.result c.loop-line.least-is (subst (λ (v : ℤ). Least (party c.args.self.now) c.args.lines.now c.loop-line.line-index v) c.loop-line.least-is c.loop-line.invariant) e.most e.under e.met)

pub returns : goal.returns
returns c =
    let l = c.loop-line.invariant in
    record {
      ring = ring_least c.args.lines.now (party c.args.self.now) c.requires.pairs c.requires.bounds c.requires.rounds _ (λ j h. l.under j (omega arith))
          (elim l.met [ inl e ↦ inl e | inr m ↦ inr (m.0, omega (arith, m.1), m.2) ]);
      most = l.most;
    }
