-- The results of the ledger's calls as answers.
use Rattle.std.specs.Prelude.{◌≡◌, cond, List, length, replicate, ℤ, pos, Ok, Err, Result, ◌==◌}
use Rattle.credit.specs.declared.refusal.Refusal.{Refusal}
use Rattle.credit.specs.Refusals.{Verdict}
use Rattle.calls.specs.declared.call.Answer.{Answer}
use Rattle.calls.specs.declared.call.Answer.TheVariants.{Done, Reserved, Refused}
use Rattle.ledger.specs.declared.reservation.Reservation.{Reservation}
use Rattle.ledger.specs.declared.reservation.Unbooked.{Unbooked}
use Rattle.ledger.specs.States.{State}
use Rattle.ledger.specs.Calls.{after_refusal}

abbrev pub held_or : Result Reservation Refusal → Answer
held_or (Ok v) = Reserved v.payment
held_or (Err e) = Refused e

abbrev pub booked_or : Result (Unit {0}) Unbooked → Answer
booked_or (Ok u) = Done
booked_or (Err f) = Refused f.refusal

-- a refused booking hands its token back
abbrev pub HandedBack : Reservation → Result (Unit {0}) Unbooked → Type 0
HandedBack v (Ok u) = Unit {0}
HandedBack v (Err f) = f.reservation ≡ v

-- the sheet on every way out: all zeros where it has 256 places, else as it was
abbrev pub cleared : List ℤ → List ℤ
cleared plan = cond (length plan == 256) (replicate (length plan) (pos 0)) plan

-- the state once a payment's refusal, if any, has spoiled the inmost group
abbrev pub noted : Verdict → State → State
noted (Ok u) s = s
noted (Err e) s = after_refusal e s
