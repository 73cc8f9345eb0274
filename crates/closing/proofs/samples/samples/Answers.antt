use Rattle.std.proofs.Common.{◌≡◌, ℕ, List, length, get_or, ℤ, pos, nat_abs, refl, ap, arith}
use Rattle.batch.specs.declared.reader.Step.{Step}
use Rattle.batch.specs.Forms.{shape_of}
use Rattle.closing.proofs.samples.samples.Goals as goal

pub returns : goal.returns
unfolding shape_of
returns c = record {
  alike = record { lines = refl; nets = refl; groups = refl; standing = refl };
  unlike = λ a. let h : ◌≡◌ {A = ℕ} 4 0 = ap (λ (ns : List ℤ). nat_abs (get_or ns 1 (pos 0))) a.nets in absurd (omega arith);
  same_asked = record { forms = refl; long = refl };
  other_asked = λ a. let h : ◌≡◌ {A = ℕ} 1 0 = ap (λ (ss : List Step). length ss) a.forms in absurd (omega arith);
}
