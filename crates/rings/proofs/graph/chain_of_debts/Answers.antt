use Rattle.std.proofs.Common.{◌≡◌, true}
use Rattle.search.specs.Rowed.{reaches}
use Rattle.search.proofs.Answering.{searched_map}
use Rattle.rings.specs.Steps.{DebtStep}
use Rattle.rings.proofs.graph.chain_of_debts.Goals as goal

pub returns : goal.returns
returns c =
    let e = c.debts.ensures in
    searched_map (λ m n. reaches c.debts.result m n ≡ true) (DebtStep c.args.lines.now) (λ m n hm hn h. e.sound m n h) (λ m n hm hn h. e.complete m n hm hn h)
    c.args.start c.args.goal c.search.result c.search.ensures
