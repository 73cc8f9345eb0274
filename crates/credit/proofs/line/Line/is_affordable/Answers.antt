use Rattle.std.proofs.Common.{Bool, ◌&&◌, neg_ℤ, ◌≤ℤ◌, sym, ap, ◌∙◌, arith, w32, to_z, of_z}
use lib.Signed.{le_z}
use Rattle.std.proofs.lemmas.Int.{ints}
use Rattle.credit.proofs.Bounds.{le_z_test, same_order}
use Rattle.credit.proofs.line.Line.is_affordable.Goals as goal

pub returns-then-from : goal.returns-then-from
returns-then-from c =
    let l = c.args.self.now in
    let h : neg_ℤ l.trust_b ≤ℤ l.debt = omega (arith, ints) in
    same_order (to_z w32 (of_z w32 l.debt)) (to_z w32 (of_z w32 l.trust_a)) l.debt l.trust_a (λ k. omega (arith, ints)) (λ k. omega (arith, ints))
    ∙ ap (λ (t : Bool). t && le_z l.debt l.trust_a) (sym (le_z_test (neg_ℤ l.trust_b) l.debt h))
