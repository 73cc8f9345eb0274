-- One line of a batch read, and then the others.
use Rattle.std.proofs.Common.{◌≡◌, List, ◌∷◌, ◌++◌, Some, Ok, Result, sym, ap, ◌∙◌, append_assoc}
use Rattle.credit.specs.declared.refusal.Refusal.{Refusal}
use Rattle.calls.specs.declared.call.Call.{Call}
use Rattle.batch.specs.declared.form.Form.{Form}
use Rattle.batch.specs.declared.reader.Step.{Step}
use Rattle.batch.specs.Reads.{head_of, tail_of}
use Rattle.closing.proofs.Carrying.{head_some}
use Rattle.compare.specs.Asked.{calls_of}
use Rattle.compare.specs.Scripts.{calls_by, calls_in, stop_by, stop_in}

-- a form: its calls are added
pub read_on_lem : (steps rest : List Step) (step : Step) (f : Form) (xs ys : List Call) → Some step ≡ head_of steps → rest ≡ tail_of steps → step.form ≡ Ok f → ys ≡ xs ++ calls_of f
    → (ys ++ calls_in rest ≡ xs ++ calls_in steps) × (stop_in rest ≡ stop_in steps)
read_on_lem steps rest step f xs ys h t e k =
    let all : steps ≡ step ∷ rest = head_some steps step h ∙ ap (λ (v : List Step). step ∷ v) (sym t) in (
      ap (λ (v : List Call). v ++ calls_in rest) k
          ∙ append_assoc xs (calls_of f) (calls_in rest)
          ∙ ap (λ (v : Result Form Refusal). xs ++ calls_by v (calls_in rest)) (sym e)
          ∙ ap (λ (v : List Step). xs ++ calls_in v) (sym all),
      ap (λ (v : Result Form Refusal). stop_by step.line v (stop_in rest)) (sym e) ∙ ap stop_in (sym all),
    )
