-- Rows that are all empty have no step.
use Rattle.std.proofs.Common.{◌≡◌, ℕ, zero, suc, false, get_or, replicate, ap, ◌∙◌}
use Rattle.members.specs.declared.group.Group.{Group}
use Rattle.members.specs.Groups.{inside}
use Rattle.members.proofs.Digits.{inside_zero}
use Rattle.search.specs.Rowed.{nobody}

pub no_step : (e : Group) → e.bits ≡ 0 → (k m n : ℕ) → inside (get_or (replicate k e) m nobody).bits n ≡ false
no_step e z zero m n = inside_zero n
no_step e z (suc k) zero n = ap (λ x. inside x n) z ∙ inside_zero n
no_step e z (suc k) (suc m) n = no_step e z k m n
