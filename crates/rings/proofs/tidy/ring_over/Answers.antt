use Rattle.lists.specs.Lists.{listed}
use Rattle.rings.proofs.Clearing.{over_searched}
use Rattle.search.specs.declared.chain.Chain.{Chain}
use Rattle.std.proofs.Common.{MatchOption, Option, sym, subst}
use Rattle.rings.specs.Rounds.{Clear, RoundOver}
use Rattle.rings.proofs.tidy.ring_over.Goals as goal

pub returns : goal.returns
returns c =
    let d = c.in_ok-debt.debt in
    subst (λ (o : Option Chain). MatchOption o (Clear c.args.lines.now c.args.i) (λ chain. RoundOver c.args.lines.now c.args.i (listed chain.members))) (sym c.ok.ensures.value)
    (over_searched c.args.lines.now c.args.i d.debtor d.creditor c.requires.pairs c.requires.bounds c.requires.place c.in_ok-debt.ensures c.chain_of_debts.result c.chain_of_debts.ensures)
