use Rattle.std.proofs.Common.{◌≡◌, ◌≤◌, length, take, vec_items, vec_len, vec_capacity}
use Rattle.ledger.specs.States.{state_of}
use Rattle.replay.specs.Tokens.{Genuine}
use Rattle.replay.proofs.Recording.{Recorded}
use Rattle.replay.proofs.replay.close.Given as goal

abbrev pub invariant-loop-call : goal.invariant-loop-call
invariant-loop-call g l =
    Genuine l.held (state_of l.ledger)
    × Recorded (state_of l.ledger) (take l.call-index l.calls) (vec_items l.entries)
    × (vec_len l.entries ≡ l.call-index)
    × (length l.calls ≤ vec_capacity l.entries)
