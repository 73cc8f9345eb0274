-- Runs of a new ledger: a list of calls, each served by any router that keeps the meaning.
use Rattle.std.specs.Prelude.{ℕ, Bool, List, [], ◌∷◌, map, ℤ}
use Rattle.credit.specs.declared.payment.Payment.{Payment}
use Rattle.credit.specs.Refusals.{number_of}
use Rattle.credit.specs.Net.{net_table}
use Rattle.calls.specs.declared.call.Call.{Call}
use Rattle.calls.specs.declared.call.Answer.{Answer}
use Rattle.calls.specs.declared.call.Answer.TheVariants.{Done, Reserved, Released, Kept, Undone, Refused}
use Rattle.ledger.specs.States.{State, fresh}
use Rattle.ledger.specs.Calls.{Does}

-- one call of a run: what was asked, what was answered, and the ledger after it
pub record Turn : Type 0 where
  pub call : Call
  pub answer : Answer
  pub after : State

-- the ledger after a run; the newest call stands first
abbrev pub latest : List Turn → State
latest [] = fresh
latest (t ∷ ts) = t.after

-- a run of a new ledger. Each call may be served by another router
abbrev pub Run : List Turn → Type 0
Run [] = Unit {0}
Run (t ∷ ts) = Does (latest ts) t.call t.answer t.after × Run ts

abbrev pub calls : List Turn → List Call
calls ts = map (λ t. t.call) ts

-- the 64 net positions after each call
abbrev pub net_tables : List Turn → List (List ℤ)
net_tables ts = map (λ t. net_table t.after.lines) ts

-- an answer apart from the group named for want of room and that group's room: a refusal counts by its number
pub data Reply : Type 0 where
  done : Reply
  reserved : Payment → Reply
  released : Bool → Reply
  kept : Reply
  undone : Reply
  refused : ℕ → Reply

abbrev pub reply : Answer → Reply
reply Done = done
reply (Reserved pay) = reserved pay
reply (Released b) = released b
reply Kept = kept
reply Undone = undone
reply (Refused e) = refused (number_of e)

abbrev pub replies : List Turn → List Reply
replies ts = map (λ t. reply t.answer) ts
