use Rattle.std.proofs.Common.{◌≡◌, length, vec_items, sym, ap, ◌∙◌, ap₂, arith}
use Rattle.std.specs.Vec.{with_items}
use Rattle.std.proofs.lemmas.Bool.{eqb-true}
use Rattle.lists.specs.Lists.{listed}
use Rattle.credit.specs.Sums.{every}
use Rattle.credit.specs.Net.{bounded}
use Rattle.rings.proofs.Rings.{shape}
use Rattle.ledger.specs.Debts.{with_debts}
use Rattle.ledger.proofs.Shapes.{covers, safe, shape_with_debts, distinct_alike, complete_alike, restorable_alike, over}
use Rattle.ledger.proofs.Stacks.{every_front, every_last}
use Rattle.ledger.proofs.Steps.{unstrained_none}
use Rattle.ledger.proofs.state.Ledger.undo_inmost.Goals as goal

pub restore-requires : goal.restore-requires
restore-requires c =
    let s = c.args.self.now in
    let ls = vec_items s.lines in
    let sp = c.in-Some.savepoint in
    let k = eqb-true (length (listed sp.debts)) (length ls) (every_last (covers ls) _ sp (sym (ap (every (covers ls)) c.in-Some.ensures.items) ∙ s.complete)) in
    ap length c.deref_mut.ensures.value ∙ sym (ap length c.as_slice.ensures.value ∙ k)

pub invariant_of-self : goal.invariant_of-self
invariant_of-self c =
    let s = c.args.self.now in
    let ls = vec_items s.lines in
    let sps = c.in-Some.ensures.items in
    let ds = listed c.in-Some.savepoint.debts in
    let e : c.restore.new.lines ≡ with_debts ls ds = c.restore.ensures ∙ ap₂ with_debts c.deref_mut.ensures.value c.as_slice.ensures.value in
    let w : vec_items (with_items s.lines c.restore.new.lines) ≡ with_debts ls ds = over s.lines c.restore.new.lines (ap shape e ∙ shape_with_debts ls ds) ∙ e in
    let alike : shape ls ≡ shape (vec_items (with_items s.lines c.restore.new.lines)) = sym (ap shape w ∙ shape_with_debts ls ds) in record {
      few = s.few;
      wide = s.wide;
      bounds = ap (every bounded) w ∙ every_last (safe ls) _ _ (sym (ap (every (safe ls)) sps) ∙ s.kept);
      pairs = distinct_alike _ ls (sym alike) ∙ s.pairs;
      shallow = omega (arith, c.pop.ensures.len, s.shallow);
      deep = omega (arith, c.pop.ensures.capacity, s.deep);
      complete = complete_alike ls _ _ alike (every_front (covers ls) _ _ (sym (ap (every (covers ls)) sps) ∙ s.complete));
      kept = restorable_alike ls _ _ alike (every_front (safe ls) _ _ (sym (ap (every (safe ls)) sps) ∙ s.kept));
      proper = s.proper;
      fitting = λ g. unstrained_none s.standing g _ c.requires;
    }
