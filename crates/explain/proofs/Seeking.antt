-- A line that is looked for step by step.
use Rattle.std.proofs.Common.{◌≡◌, ℕ, eqb, List, [], ◌∷◌, refl, ⊎_elim}
use Rattle.std.specs.List.{find}
use Rattle.std.specs.Option.{option_and_then}
use Rattle.std.specs.Result.{result_ok}
use Rattle.std.proofs.lemmas.Bool.{cases_Bool}
use Rattle.batch.specs.declared.reader.Step.{Step}
use Rattle.explain.specs.Tells.{form_at}

-- the form of the first step with the number
pub sought : (n : ℕ) (ss : List Step) → option_and_then (λ (s : Step). result_ok s.form) (find (λ s. eqb s.line n) ss) ≡ form_at n ss
sought n [] = refl
sought n (s ∷ ss) = ⊎_elim (λ e. rw e refl) (λ e. rw e (sought n ss)) (cases_Bool (eqb s.line n))
