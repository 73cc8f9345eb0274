use Rattle.std.proofs.Common.{◌≡◌, ℕ, List, [], ◌∷◌, ◌++◌, ℤ, vec_items, ap, ◌∙◌, ap₂, arith, w32, SFits, to_z, of_z}
use Rattle.std.proofs.lemmas.Int.{to_z-of_z}
use Rattle.credit.specs.declared.line.Line.{Line}
use Rattle.credit.specs.Sums.{every}
use Rattle.credit.specs.Net.{bounded}
use Rattle.credit.specs.Pairs.{distinct}
use Rattle.ledger.specs.Sound.{complete, restorable}
use Rattle.ledger.specs.States.{state_of}
use Rattle.ledger.specs.Calls.{new_line}
use Rattle.ledger.proofs.Opens.{openable, opened_bounds, opened_pairs}
use Rattle.ledger.proofs.Steps.{unstrained_none}
use Rattle.ledger.proofs.Stacks.{open_none}
use Rattle.ledger.proofs.state.Ledger.add_line.Goals as goal

-- the lines with the new one behind
pushed : (ks ls : List Line) (l : Line) (x y : ℕ) (t u : ℤ) → SFits w32 t → SFits w32 u → ks ≡ ls ++ l ∷ [] → l ≡ new_line x y (to_z w32 (of_z w32 t)) (to_z w32 (of_z w32 u)) → ks ≡ ls ++ new_line x y t u ∷ []
pushed ks ls l x y t u ft fu e h = e ∙ ap (λ v. ls ++ v ∷ []) (h ∙ ap₂ (new_line x y) (to_z-of_z w32 t ft) (to_z-of_z w32 u fu))

pub push_reserved-requires : goal.push_reserved-requires
push_reserved-requires c =
    let s = c.args.self.now in
    let o = openable (state_of s) c.args.first c.args.second c.args.trust c.args.back c.requires in
    omega (arith, o.few, s.wide, s.lines.ok.0)

pub invariant_of-self : goal.invariant_of-self
invariant_of-self c =
    let s = c.args.self.now in
    let ls = vec_items s.lines in
    let x = c.args.first in
    let y = c.args.second in
    let t = c.args.trust in
    let u = c.args.back in
    let ks = vec_items c.push_reserved.new.self in
    let o = openable (state_of s) x y t u c.requires in
    let e : ks ≡ ls ++ new_line x y t u ∷ [] = pushed ks ls c.new_line.result x y t u c.ranges.trust c.ranges.back c.push_reserved.ensures.items c.new_line.ensures in record {
      few = omega (arith, o.few, c.push_reserved.ensures.len, s.lines.ok.0);
      wide = omega (arith, c.push_reserved.ensures.capacity, s.wide);
      bounds = ap (every bounded) e ∙ opened_bounds (state_of s) x y t u o s.bounds;
      pairs = ap distinct e ∙ opened_pairs (state_of s) x y t u o s.pairs;
      shallow = s.shallow;
      deep = s.deep;
      complete = ap (complete ks) (open_none (vec_items s.savepoints) o.none);
      kept = ap (restorable ks) (open_none (vec_items s.savepoints) o.none);
      proper = s.proper;
      fitting = λ g. unstrained_none s.standing g ks o.vacant;
    }
