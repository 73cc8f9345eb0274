use Rattle.std.proofs.Common.{◌≡◌, vec_items, sym, ap, ◌∙◌, subst}
use Rattle.std.specs.Vec.{with_items}
use Rattle.credit.specs.Sums.{every}
use Rattle.credit.specs.Net.{bounded}
use Rattle.credit.proofs.Rooms.{ends_bounded}
use Rattle.rings.specs.Rings.{Tidied}
use Rattle.rings.proofs.Rings.{tidied_keeps, shape}
use Rattle.ledger.specs.Sound.{strained}
use Rattle.ledger.proofs.Shapes.{room_alike, distinct_alike, complete_alike, restorable_alike, over}
use Rattle.ledger.proofs.Steps.{unstrained_alike}
use Rattle.ledger.proofs.state.Ledger.cancel_rings.Goals as goal

pub invariant_of-self : goal.invariant_of-self
invariant_of-self c =
    let s = c.args.self.now in
    let ls = vec_items s.lines in
    let ws = c.tidy.new.lines in
    let k = tidied_keeps ls ws s.pairs s.bounds (subst (λ xs. Tidied xs ws) c.deref_mut.ensures.value c.tidy.ensures.tidied) in
    let w : vec_items (with_items s.lines ws) ≡ ws = over s.lines ws k.shapes in
    let alike : shape ls ≡ shape (vec_items (with_items s.lines ws)) = sym (ap shape w ∙ k.shapes) in record {
      few = s.few;
      wide = s.wide;
      bounds = ap (every bounded) w ∙ k.bounds;
      pairs = distinct_alike _ ls (sym alike) ∙ s.pairs;
      shallow = s.shallow;
      deep = s.deep;
      complete = complete_alike ls _ _ alike s.complete;
      kept = restorable_alike ls _ _ alike s.kept;
      proper = s.proper;
      fitting = λ g. ap (strained s.standing g) w
          ∙ unstrained_alike s.standing g ls ws
          (room_alike g ls ws (ends_bounded ls s.bounds) (ends_bounded ws k.bounds) (sym k.shapes) (λ m h. sym (k.nets m)))
          (s.fitting g);
    }
