-- The results of calls as answers.
use Rattle.std.specs.Prelude.{Ok, Err, Result}
use Rattle.credit.specs.declared.refusal.Refusal.{Refusal}
use Rattle.credit.specs.Refusals.{Verdict}
use Rattle.calls.specs.declared.call.Answer.{Answer}
use Rattle.calls.specs.declared.call.Answer.TheVariants.{Done, Kept, Undone, Refused}
use Rattle.calls.specs.declared.call.Closing.{Closing}
use Rattle.calls.specs.declared.call.Closing as how

abbrev pub done_or : Verdict → Answer
done_or (Ok u) = Done
done_or (Err e) = Refused e

abbrev pub closing : Closing → Answer
closing how.TheVariants.Kept = Kept
closing how.TheVariants.Undone = Undone

abbrev pub closed_or : Result Closing Refusal → Answer
closed_or (Ok h) = closing h
closed_or (Err e) = Refused e
