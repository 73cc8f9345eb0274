-- The least room of a chain, hop by hop.
use Rattle.std.proofs.Common.{◌≡◌, ◌≤◌, true, ℕ, ◌+◌, ◌<◌, List, length, get_or, map, take, ℤ, ◌≤ℤ◌, sym, ap, ◌∙◌, subst, inl, inr, ⊎_elim, arith, rules}
use Rattle.std.proofs.lemmas.Int.{fold-int_min_bounds, fold-int_min_reached}
use Rattle.std.proofs.lemmas.List.{get_or_default, get_or-map, length-map}
use Rattle.std.proofs.lemmas.List.Folds.{fold-map}
use Rattle.std.proofs.lemmas.List.Sums.{fold_more}
use Rattle.std.specs.Int.{int_min}
use Rattle.credit.specs.declared.line.Line.{Line}
use Rattle.credit.proofs.Booked.{booked_any, length_booked}
use Rattle.routing.specs.Meaning.{usable}
use Rattle.filling.proofs.Filled.{usable_facts}
use Rattle.filling.specs.declared.chain.Hop.{Hop}
use Rattle.filling.specs.Fillings.{no_hop, room_over, least_over, Least}

pub usable_long : (ls : List Line) (plan : List ℤ) → usable ls plan ≡ true → length ls ≤ length plan
usable_long ls plan e = (usable_facts ls plan e).long

pub ruleset rooms = (rules, booked_any, length_booked, usable_long)

abbrev lesser : List Line → ℤ → Hop → ℤ
lesser ls least h = int_min least (room_over ls h)

-- a hop more
pub least_more : (ls : List Line) (hops : List Hop) (left x : ℤ) (i : ℕ) → i < length hops → x ≡ least_over ls (take i hops) left
    → int_min x (room_over ls (get_or hops i no_hop)) ≡ least_over ls (take (i + 1) hops) left
least_more ls hops left x i h e = ap (λ t. int_min t (room_over ls (get_or hops i no_hop))) e ∙ sym (fold_more (lesser ls) left hops i no_hop h)

-- what the fold gives is the least
pub least_all : (ls : List Line) (hops : List Hop) (left x : ℤ) → x ≡ least_over ls hops left → Least ls hops left x
least_all ls hops left x e =
    let rooms = map (room_over ls) hops in
    let f = e ∙ sym (fold-map int_min (room_over ls) left hops) in
    let b = fold-int_min_bounds left rooms x f in
    record {
      most = b.0;
      within = λ k d h. subst (λ r. x ≤ℤ r) (get_or-map (room_over ls) hops k d x h) (b.1 k x (omega (arith, h, length-map hops (room_over ls))));
      met = ⊎_elim (λ s. inl s)
          (λ s. let h : s.0 < length hops = omega (arith, s.1, length-map hops (room_over ls)) in
          let d = get_or hops s.0 no_hop in
          inr (s.0, d, h, get_or_default hops s.0 d no_hop h, sym s.2 ∙ get_or-map (room_over ls) hops s.0 no_hop x h))
          (fold-int_min_reached left rooms x f);
    }
