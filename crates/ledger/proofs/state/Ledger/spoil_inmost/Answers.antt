use Rattle.std.proofs.Common.{vec_items, refl, arith}
use Rattle.ledger.proofs.Shapes.{covers, safe}
use Rattle.ledger.proofs.Stacks.{every_mark}
use Rattle.ledger.proofs.state.Ledger.spoil_inmost.Goals as goal

pub invariant_of-self-clause-complete : goal.invariant_of-self-clause-complete
invariant_of-self-clause-complete c =
    let s = c.args.self.now in
    let v = s.savepoints in
    every_mark (covers (vec_items s.lines)) (vec_items v) _ c.in-Some.savepoint.now (omega (arith, v.ok.0, c.in-Some.ensures.variant.0 refl)) c.in-Some.ensures.value refl s.complete

pub invariant_of-self-clause-kept : goal.invariant_of-self-clause-kept
invariant_of-self-clause-kept c =
    let s = c.args.self.now in
    let v = s.savepoints in
    every_mark (safe (vec_items s.lines)) (vec_items v) _ c.in-Some.savepoint.now (omega (arith, v.ok.0, c.in-Some.ensures.variant.0 refl)) c.in-Some.ensures.value refl s.kept
