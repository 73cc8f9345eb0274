-- A table of checks that is passed.
use Rattle.std.proofs.Common.{◌≡◌, ℕ, Bool, true, false, Err, refl, arith}
use Rattle.credit.specs.declared.refusal.Refusal.{Refusal}
use Rattle.credit.specs.Refusals.{Verdict, passes, check}

pub refused_passes : {A : Type 0} (e : Refusal) → Err e ≡ passes → A
refused_passes e h = let z : ◌≡◌ {A = ℕ} 0 1 = cc in absurd (omega arith)

-- its first test fails, and the rest is passed
pub check_passes : (t : Bool) (e : Refusal) (rest : Verdict) → check t e rest ≡ passes → (t ≡ false) × (rest ≡ passes)
check_passes true e rest h = refused_passes e h
check_passes false e rest h = (refl, h)
