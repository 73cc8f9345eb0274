-- Lines within their bounds and plans that fit, line by line.
use Rattle.std.proofs.Common.{◌≡◌, ◌≤◌, Bool, ◌&&◌, List, [], ◌∷◌, length, ℤ, refl, ap, ◌∙◌, arith}
use Rattle.std.specs.List.{list_all, zip}
use Rattle.std.proofs.lemmas.Bool.Decides.{nat_tests}
use Rattle.credit.specs.declared.line.Line.{Line}
use Rattle.credit.specs.Sums.{every}
use Rattle.credit.specs.Net.{bounded}
use Rattle.credit.specs.Plans.{booked, moved, roomy, fits}

regrouped : (b c r s : Bool) → ((b && r) && (c && s)) ≡ ((b && c) && (r && s))
regrouped b c r s = grind (arith, nat_tests)

-- each line with its plan number in turn, or all lines and then all numbers
pub all_sound : (ls : List Line) (xs : List ℤ) → length ls ≤ length xs → list_all (λ p. bounded p.0 && roomy (moved p.0 p.1)) (zip ls xs) ≡ (every bounded ls && fits ls xs)
all_sound [] xs h = refl
all_sound (l ∷ ls) [] h = absurd (omega arith)
all_sound (l ∷ ls) (x ∷ xs) h =
    ap (λ b. (bounded l && roomy (moved l x)) && b) (all_sound ls xs (omega arith))
    ∙ regrouped (bounded l) (every bounded ls) (roomy (moved l x)) (every roomy (booked ls xs))
