use Rattle.std.proofs.Common.{inl, inr, arith}
use Rattle.std.proofs.lemmas.Int.{ints}
use Rattle.credit.proofs.Bounds.{bounded_facts}
use Rattle.rings.proofs.ring.Ring.least_on.Goals as goal

pub lesser-requires : goal.lesser-requires
lesser-requires c =
    let f = bounded_facts c.args.line c.requires in
    record { debtor = omega (arith, f.order, f.high); creditor = f.high }

pub returns : goal.returns
returns c =
    let f = bounded_facts c.args.line c.requires in
    let p = c.lesser-least.ensures in
    let q = c.lesser.ensures in
    record {
      most = omega (arith, ints);
      under = (λ e. omega (arith, ints, p.under e), λ e. omega (arith, ints, q.under e));
      met = elim q.met [
        | inl e ↦ elim p.met [ inl d ↦ inl (omega (arith, ints)) | inr d ↦ inr (inl (d.0, omega (arith, ints, d.1))) ]
        | inr e ↦ inr (inr (e.0, omega (arith, ints, e.1)))
      ];
    }
