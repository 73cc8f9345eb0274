-- What the questions answer.
use Rattle.std.specs.Prelude.{Ok, Err, Result}
use Rattle.credit.specs.declared.refusal.Refusal.{Refusal}
use Rattle.credit.specs.Refusals.{Verdict}

-- the first refusal that applies, or the answer
abbrev pub answered : {A : Type 0} → Verdict → A → Result A Refusal
answered (Ok u) x = Ok x
answered (Err e) x = Err e
