-- What holds of every ledger between calls.
use Rattle.std.specs.Prelude.{ℕ, Bool, true, false, not, ◌&&◌, List, length, Some, None, Option, ◌==◌, int_le}
use Rattle.lists.specs.Lists.{listed}
use Rattle.members.specs.Groups.{inside}
use Rattle.credit.specs.declared.line.Line.{Line}
use Rattle.credit.specs.declared.payment.Payment.{Payment}
use Rattle.credit.specs.Sums.{every}
use Rattle.credit.specs.Net.{bounded}
use Rattle.credit.specs.Rooms.{room}
use Rattle.routing.specs.Meaning.{not_members, not_amount}
use Rattle.ledger.specs.declared.state.Savepoint.{Savepoint}
use Rattle.ledger.specs.Debts.{with_debts}

-- every savepoint has a debt for each line
abbrev pub complete : List Line → List Savepoint → Bool
complete ls sps = every (λ sp. length (listed sp.debts) == length ls) sps

-- the debts of every savepoint are within bounds
abbrev pub restorable : List Line → List Savepoint → Bool
restorable ls sps = every (λ sp. every bounded (with_debts ls (listed sp.debts))) sps

-- a standing reservation is between two members, of an amount in range
abbrev pub proper : Option Payment → Bool
proper None = true
proper (Some pay) = not (not_members pay.payer pay.payee) && (not (pay.payer == pay.payee) && not (not_amount pay.amount))

-- a group between payer and payee of the standing reservation has less room than its amount
abbrev pub strained : Option Payment → ℕ → List Line → Bool
strained None g ls = false
strained (Some pay) g ls = inside g pay.payer && (not (inside g pay.payee) && not (int_le pay.amount (room g ls)))
