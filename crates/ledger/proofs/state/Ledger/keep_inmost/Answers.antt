use Rattle.std.proofs.Common.{vec_items, sym, ap, ◌∙◌}
use Rattle.credit.specs.Sums.{every}
use Rattle.ledger.proofs.Shapes.{covers, safe}
use Rattle.ledger.proofs.Stacks.{every_front}
use Rattle.ledger.proofs.state.Ledger.keep_inmost.Goals as goal

pub invariant_of-self-clause-complete : goal.invariant_of-self-clause-complete
invariant_of-self-clause-complete c =
    let s = c.args.self.now in
    let p = covers (vec_items s.lines) in
    every_front p _ _ (sym (ap (every p) c.pop.ensures.items) ∙ s.complete)

pub invariant_of-self-clause-kept : goal.invariant_of-self-clause-kept
invariant_of-self-clause-kept c =
    let s = c.args.self.now in
    let p = safe (vec_items s.lines) in
    every_front p _ _ (sym (ap (every p) c.pop.ensures.items) ∙ s.kept)
