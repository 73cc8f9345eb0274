-- One line after another.
use Rattle.std.proofs.Common.{◌≡◌, ℕ, suc, ◌+◌, ◌<◌, Bool, eqb, List, [], ◌∷◌, length, take, drop, Some, None, Result, refl, ap, ◌∙◌, ⊎_elim, one-add, add-one, arith}
use Rattle.std.specs.List.{position, before_first, after_first}
use Rattle.std.proofs.lemmas.List.{drop_all, take_all}
use Rattle.std.proofs.lemmas.Bool.{cases_Bool}
use Rattle.std.proofs.lemmas.Bool.Decides.{nat_tests}
use Rattle.credit.specs.declared.refusal.Refusal.{Refusal}
use Rattle.batch.specs.declared.form.Form.{Form}
use Rattle.batch.specs.Forms.{form_of}
use Rattle.batch.specs.Reads.{lines_of, numbered}
use Rattle.batch.specs.Pieces.{onto}

module _ {X : Type 0} (p : X → Bool) (xs : List X) where
  -- cut at the place that `position` found
  pub cut_some : (i : ℕ) → position p xs ≡ Some i → (take i xs ≡ before_first p xs) × (drop (i + 1) xs ≡ after_first p xs)
  cut_some i e = grind (arith, nat_tests)

  -- not cut where it found none
  pub cut_none : position p xs ≡ None → (xs ≡ before_first p xs) × ([] ≡ after_first p xs)
  cut_none e = grind (arith, nat_tests, take_all, drop_all)

-- the first line, and the lines after it
pub first_line : (bs : List ℕ) → 0 < length bs → lines_of bs ≡ before_first (λ b. eqb b 10) bs ∷ lines_of (after_first (λ b. eqb b 10) bs)
first_line [] h = absurd (omega arith)
first_line (b ∷ []) h = ⊎_elim (λ e. rw e refl) (λ e. rw e refl) (cases_Bool (eqb b 10))
first_line (b ∷ d ∷ bs) h = ⊎_elim (λ e. rw e refl) (λ e. rw e (ap (onto b) (first_line (d ∷ bs) (omega arith)) ∙ simp (one-add, add-one))) (cases_Bool (eqb b 10))

-- a step with the first line, and those with the lines after it
pub stepped : (n : ℕ) (rest line more : List ℕ) (form : Result Form Refusal)
    → 0 < length rest → line ≡ before_first (λ b. eqb b 10) rest → more ≡ after_first (λ b. eqb b 10) rest → form ≡ form_of line
    → numbered n (lines_of rest) ≡ record { line = n + 1; form = form } ∷ numbered (n + 1) (lines_of more)
stepped n rest line more form some front back is =
    let next : suc n ≡ n + 1 = omega arith in
    ap (numbered n) (first_line rest some) ∙ (cc)
