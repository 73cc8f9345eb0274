use borrow.Author.Differences.{up, down}
use Rattle.std.proofs.Common.{◌≡◌, ◌-◌, pos, ◌≤ℤ◌}
use Rattle.credit.specs.Refusals.{passes}
use Rattle.routing.specs.Meaning.{router_checks}
use Rattle.filling.specs.Fillings.{Fillings}
use Rattle.filling.proofs.fill.round.Given as goal

abbrev pub invariant-loop-rest : goal.invariant-loop-rest
invariant-loop-rest l = record {
  fillings : Fillings l.lines l.fn.payment.payer l.fn.payment.payee (pos l.least) l.fn.payment.amount l.initial.plan l.rest.amount l.plan;
  payer : l.rest.payer ≡ l.fn.payment.payer;
  payee : l.rest.payee ≡ l.fn.payment.payee;
  checks : pos 1 ≤ℤ l.rest.amount → router_checks l.lines l.rest l.plan ≡ passes;
  low : pos 0 ≤ℤ l.rest.amount;
  high : l.rest.amount ≤ℤ l.fn.payment.amount;
}

abbrev pub decreases-loop-rest : goal.decreases-loop-rest
decreases-loop-rest l = up l.rest.amount - down l.rest.amount
