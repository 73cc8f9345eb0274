-- Laws of the grammar's definitions.
use Rattle.std.proofs.Common.{◌≡◌, ℕ, cond, false, eqb, List, [], ◌∷◌, length, get_or, take, drop, codes, Some, None, refl, ap, ⊎_elim, arith}
use Rattle.std.specs.Str.{bytes_eq}
use Rattle.std.proofs.lemmas.Slice.Eq.{bytes_eq-Decides}
use Rattle.std.proofs.lemmas.Bool.{cases_Bool}
use Rattle.batch.specs.Grammar.{after, fixed_of}

-- `after` by a test of the front
pub after_test : (p s : List ℕ) → after p s ≡ cond (bytes_eq (take (length p) s) p) (Some (drop (length p) s)) None
after_test [] s = refl
after_test (c ∷ p) [] = refl
after_test (c ∷ p) (b ∷ s) = ⊎_elim (λ e. rw e (after_test p s)) (λ e. rw e refl) (cases_Bool (eqb b c))

-- a text of 15 bytes that differs from the one name of that length at i, and from the other at j
pub no_route : (bs : List ℕ) (i j : ℕ) → length bs ≡ 15 → (get_or bs i 0 ≡ get_or (codes "(route breadth)") i 0 → ⊥) → (get_or bs j 0 ≡ get_or (codes "(route scaling)") j 0 → ⊥) → None ≡ fixed_of bs
no_route bs i j len b s =
    let other : (t : List ℕ) → (bs ≡ t → ⊥) → bytes_eq bs t ≡ false = λ t n. ⊎_elim (λ e. absurd (n ((bytes_eq-Decides bs t).0 e))) (λ e. e) (cases_Bool (bytes_eq bs t)) in
    let tidy = other (codes "(tidy)") (λ e. absurd (omega (arith, len, ap length e))) in
    let breadth = other (codes "(route breadth)") (λ e. b (ap (λ x. get_or x i 0) e)) in
    let scaling = other (codes "(route scaling)") (λ e. s (ap (λ x. get_or x j 0) e)) in
    let kept = other (codes "(route kept)") (λ e. absurd (omega (arith, len, ap length e))) in
    let all = other (codes "(all") (λ e. absurd (omega (arith, len, ap length e))) in
    let close = other (codes ")") (λ e. absurd (omega (arith, len, ap length e))) in
    simp (tidy, breadth, scaling, kept, all, close)
