use Rattle.std.proofs.Common.{◌≡◌, ◌≤◌, List, ℤ, ◌≤ℤ◌}
use Rattle.credit.specs.Refusals.{passes}
use Rattle.routing.specs.Meaning.{router_checks}
use Rattle.filling.specs.Fillings.{Rounds}
use Rattle.filling.proofs.rounds.rounds.Given as goal

-- what the rounds from here on leave is what all of them leave
abbrev pub invariant-loop-short : goal.invariant-loop-short
invariant-loop-short l = record {
  least : 1 ≤ l.least;
  checks : router_checks l.lines l.rest l.plan ≡ passes;
  payer : l.rest.payer ≡ l.fn.payment.payer;
  payee : l.rest.payee ≡ l.fn.payment.payee;
  high : l.rest.amount ≤ℤ l.fn.payment.amount;
  onward : (rest : ℤ) (to : List ℤ) → Rounds l.lines l.fn.payment.payer l.fn.payment.payee l.least l.rest.amount l.plan rest to
      → Rounds l.lines l.fn.payment.payer l.fn.payment.payee l.top l.fn.payment.amount l.initial.plan rest to;
}

abbrev pub decreases-loop-short : goal.decreases-loop-short
decreases-loop-short l = l.least
