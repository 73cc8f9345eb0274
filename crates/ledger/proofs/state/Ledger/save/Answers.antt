use Rattle.std.proofs.Common.{vec_items, ap, ◌∙◌}
use Rattle.credit.specs.Sums.{every}
use Rattle.ledger.specs.declared.state.Savepoint.{Savepoint}
use Rattle.ledger.specs.Debts.{debts}
use Rattle.ledger.proofs.Shapes.{covers, covers_debts, safe, safe_debts}
use Rattle.ledger.proofs.Stacks.{every_push}
use Rattle.ledger.proofs.state.Ledger.save.Goals as goal

pub invariant_of-self-clause-complete : goal.invariant_of-self-clause-complete
invariant_of-self-clause-complete c =
    let s = c.args.self.now in
    let ls = vec_items s.lines in
    let sp : Savepoint = record { debts = c.debts_of-debts.result; spoiled = c.inmost_spoiled-spoiled.result } in
    ap (every (covers ls)) c.push_reserved.ensures.items
    ∙ every_push (covers ls) _ sp s.complete (covers_debts ls sp (c.debts_of-debts.ensures ∙ ap debts c.deref.ensures.value))

pub invariant_of-self-clause-kept : goal.invariant_of-self-clause-kept
invariant_of-self-clause-kept c =
    let s = c.args.self.now in
    let ls = vec_items s.lines in
    let sp : Savepoint = record { debts = c.debts_of-debts.result; spoiled = c.inmost_spoiled-spoiled.result } in
    ap (every (safe ls)) c.push_reserved.ensures.items
    ∙ every_push (safe ls) _ sp s.kept (safe_debts ls sp s.bounds (c.debts_of-debts.ensures ∙ ap debts c.deref.ensures.value))
