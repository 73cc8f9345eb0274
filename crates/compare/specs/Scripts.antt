-- The calls that a batch asks, up to the first line that is no form.
use Rattle.std.specs.Prelude.{◌≡◌, ℕ, List, [], ◌∷◌, ◌++◌, Some, None, Ok, Err, vec_items, Option, Result}
use Rattle.credit.specs.declared.refusal.Refusal.{Refusal}
use Rattle.calls.specs.declared.call.Call.{Call}
use Rattle.batch.specs.declared.form.Form.{Form}
use Rattle.batch.specs.declared.reader.Step.{Step}
use Rattle.compare.specs.declared.script.Stop.{Stop}
use Rattle.compare.specs.declared.script.Script.{Script}
use Rattle.compare.specs.Asked.{calls_of}

abbrev pub calls_by : Result Form Refusal → List Call → List Call
calls_by (Ok f) rest = calls_of f ++ rest
calls_by (Err e) rest = []

abbrev pub calls_in : List Step → List Call
calls_in [] = []
calls_in (s ∷ ss) = calls_by s.form (calls_in ss)

abbrev pub stop_by : ℕ → Result Form Refusal → Option Stop → Option Stop
stop_by l (Ok f) rest = rest
stop_by l (Err e) rest = Some (record { line = l; refusal = e })

-- the first line that is no form, if there is one
abbrev pub stop_in : List Step → Option Stop
stop_in [] = None
stop_in (s ∷ ss) = stop_by s.line s.form (stop_in ss)

pub record ScriptOf (steps : List Step) (script : Script) : Type 0 where
  pub calls : vec_items script.calls ≡ calls_in steps
  pub stop : script.stop ≡ stop_in steps
