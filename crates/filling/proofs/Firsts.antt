-- The first line that leads from one member to another.
use Rattle.std.proofs.Common.{◌≡◌, ℕ, suc, ◌+◌, ◌<◌, ◌≤◌, Bool, cond, not, ltb, List, [], ◌∷◌, ◌++◌, length, get_or, ℤ, Some, None, Option, sym, refl, ap, ◌∙◌, subst, arith, below_more}
use Rattle.std.proofs.lemmas.Bool.{false≢true}
use Rattle.std.proofs.lemmas.Bool.Decides.{nat_tests}
use Rattle.std.proofs.lemmas.List.{get_or_append_left, get_or_push}
use Rattle.std.proofs.lemmas.List.Sums.{fails_before_first}
use Rattle.std.proofs.lemmas.List.Quantifiers.{position-Some}
use Rattle.std.specs.List.{zip, position, position_or_len}
use Rattle.credit.specs.declared.line.Line.{Line}
use Rattle.credit.specs.Net.{no_line}
use Rattle.credit.specs.Plans.{booked, moved}
use Rattle.filling.specs.declared.chain.Hop.{Hop}
use Rattle.filling.specs.Fillings.{no_hop, Over}
use Rattle.filling.specs.Steps.{leads, LeadsAt, RoomStep}

-- lines with their plan numbers, or the lines once the plan is booked
first_zip : (test : Line → Bool) (ls : List Line) (xs : List ℤ) → length ls ≤ length xs → position_or_len (λ p. test (moved p.0 p.1)) (zip ls xs) ≡ position_or_len test (booked ls xs)
first_zip test [] xs h = refl
first_zip test (l ∷ ls) [] h = absurd (omega arith)
first_zip test (l ∷ ls) (x ∷ xs) h = ap (λ t. cond (not (test (moved l x))) (1 + t) 0) (first_zip test ls xs (omega arith))

length_zip : (ls : List Line) (xs : List ℤ) → length ls ≤ length xs → length (zip ls xs) ≡ length (booked ls xs)
length_zip [] xs h = refl
length_zip (l ∷ ls) [] h = absurd (omega arith)
length_zip (l ∷ ls) (x ∷ xs) h = ap suc (length_zip ls xs (omega arith))

pub position_zip : (test : Line → Bool) (ls : List Line) (xs : List ℤ) → length ls ≤ length xs → position (λ p. test (moved p.0 p.1)) (zip ls xs) ≡ position test (booked ls xs)
position_zip test ls xs h = rw (first_zip test ls xs h, length_zip ls xs h) refl

past_all : (i n : ℕ) → cond (ltb i n) (Some i) None ≡ None → n ≤ i
past_all i n e = grind (arith, nat_tests)

module _ (ls : List Line) (least : ℤ) (m n : ℕ) where
  abbrev first : Option ℕ
  first = position (λ l. leads l least m n) ls

  pub first_leads : (i : ℕ) → first ≡ Some i → LeadsAt ls least m n i
  first_leads i e = let p = position-Some (λ l. leads l least m n) ls i no_line e in (p.0, p.1)

  pub none_leads : first ≡ None → RoomStep ls least m n → ⊥
  none_leads e s =
      let k = past_all _ _ e in
      false≢true (sym (fails_before_first (λ l. leads l least m n) ls s.0 no_line (omega (arith, k, s.1.0))) ∙ s.1.1)

-- ---- a hop more
pub over_push : (ls : List Line) (least : ℤ) (chain : List ℕ) (hops : List Hop) (h : Hop) → ((k : ℕ) → k < length hops → Over ls least chain k (get_or hops k no_hop))
    → Over ls least chain (length hops) h → (k : ℕ) → k < length hops + 1 → Over ls least chain k (get_or (hops ++ h ∷ []) k no_hop)
over_push ls least chain hops h v o =
    below_more _ _ (λ k l. subst (λ t. Over ls least chain k t) (sym (get_or_append_left hops (h ∷ []) no_hop k l)) (v k l))
    (subst (λ t. Over ls least chain (length hops) t) (sym (get_or_push hops h no_hop (length hops) refl)) o)
