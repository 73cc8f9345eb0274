use Rattle.std.proofs.Common.{◌≡◌, vec_items, sym, ap, ◌∙◌}
use Rattle.std.specs.Vec.{with_items}
use Rattle.credit.specs.Sums.{every}
use Rattle.credit.specs.Net.{bounded}
use Rattle.credit.specs.Plans.{booked}
use Rattle.credit.proofs.Booked.{bounded_booked}
use Rattle.rings.proofs.Rings.{shape}
use Rattle.ledger.proofs.Shapes.{shape_booked, distinct_alike, complete_alike, restorable_alike, over}
use Rattle.ledger.proofs.Steps.{unstrained_none}
use Rattle.ledger.proofs.state.Ledger.enter.Goals as goal

pub invariant_of-self : goal.invariant_of-self
invariant_of-self c =
    let s = c.args.self.now in
    let ls = vec_items s.lines in
    let xs = c.args.plan.now in
    let e : c.book.new.lines ≡ booked ls xs = c.book.ensures ∙ ap (λ t. booked t xs) c.deref_mut.ensures.value in
    let w : vec_items (with_items s.lines c.book.new.lines) ≡ booked ls xs = over s.lines c.book.new.lines (ap shape e ∙ shape_booked ls xs) ∙ e in
    let alike : shape ls ≡ shape (vec_items (with_items s.lines c.book.new.lines)) = sym (ap shape w ∙ shape_booked ls xs) in record {
      few = s.few;
      wide = s.wide;
      bounds = ap (every bounded) w ∙ bounded_booked ls xs s.bounds c.requires.fit;
      pairs = distinct_alike _ ls (sym alike) ∙ s.pairs;
      shallow = s.shallow;
      deep = s.deep;
      complete = complete_alike ls _ _ alike s.complete;
      kept = restorable_alike ls _ _ alike s.kept;
      proper = s.proper;
      fitting = λ g. unstrained_none s.standing g _ c.requires.vacant;
    }
