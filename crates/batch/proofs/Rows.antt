-- The numbers read so far.
use Rattle.std.proofs.Common.{◌≡◌, ℕ, ◌+◌, ◌<◌, ◌≤◌, Bool, eqb, ◌⊎◌, inl, inr, List, [], ◌∷◌, ◌++◌, length, take, set, Some, None, Option, All, sym, refl, ap, ◌∙◌, ⊎_elim, append_assoc, append-nil, arith, one-add, add-one, length-set}
use Rattle.std.specs.List.{before_first, after_first}
use Rattle.std.proofs.lemmas.Bool.{cases_Bool}
use Rattle.std.proofs.lemmas.List.{take_more_set, take_all}
use Rattle.std.proofs.lemmas.List.Elements.{All-push}
use Rattle.batch.specs.Numbers.{numeral_of}
use Rattle.batch.specs.Parts.{ahead, numbers_of}
use Rattle.batch.specs.Pieces.{onto, cut}

abbrev pub space : ℕ → Bool
space b = eqb b 32

-- the first piece, and those after its separator; or it is the only one
pub pieces : (bs : List ℕ) → (cut 32 bs ≡ before_first space bs ∷ cut 32 (after_first space bs)) ⊎ (cut 32 bs ≡ before_first space bs ∷ [])
pieces [] = inr refl
pieces (b ∷ bs) =
    ⊎_elim (λ e. inl (rw e refl)) (λ e. ⊎_elim (λ h. inl (rw e (ap (onto b) h ∙ simp (one-add, add-one)))) (λ h. inr (rw e (ap (onto b) h ∙ simp (one-add, add-one)))) (pieces bs)) (cases_Bool (eqb b 32))

some_piece : (bs : List ℕ) → 1 ≤ length (cut 32 bs)
some_piece bs = ⊎_elim (λ e. omega (arith, ap length e)) (λ e. omega (arith, ap length e)) (pieces bs)

-- ns goes on after the first k of out
abbrev pub onward : ℕ → List ℕ → Option (List ℕ) → Option (List ℕ)
onward k out None = None
onward k out (Some ns) = Some (take k out ++ ns)

pub record Sofar (body : List ℕ) (n k : ℕ) (out rest : List ℕ) : Type 0 where
  pub size : length out ≡ n
  pub going : k < n → (k + length (cut 32 rest) ≡ n) × (numbers_of (cut 32 body) ≡ onward k out (numbers_of (cut 32 rest)))
  pub done : k ≡ n → numbers_of (cut 32 body) ≡ Some out
  pub small : All (λ m. m < 10000000) (take k out)

one_more : (k m : ℕ) (out : List ℕ) (o : Option (List ℕ)) → k < length out → onward k out (ahead (Some m) o) ≡ onward (k + 1) (set out k m) o
one_more k m out None l = refl
one_more k m out (Some ns) l = ap Some (sym (append_assoc (take k out) (m ∷ []) ns) ∙ ap (λ xs. xs ++ ns) (sym (take_more_set out k m l)))

module _ (body : List ℕ) (n k : ℕ) (out rest : List ℕ) (h : Sofar body n k out rest) (l : k < n) where
  -- the numbers that are left, by what follows the first piece
  left : (o : Option ℕ) (ps : List (List ℕ)) → cut 32 rest ≡ before_first space rest ∷ ps → numeral_of (before_first space rest) ≡ o
      → numbers_of (cut 32 body) ≡ onward k out (ahead o (numbers_of ps))
  left o ps parts e = (h.going l).1 ∙ ap (λ qs. onward k out (numbers_of qs)) parts ∙ ap (λ x. onward k out (ahead x (numbers_of ps))) e

  pub no_number : numeral_of (before_first space rest) ≡ None → numbers_of (cut 32 body) ≡ None
  no_number e = ⊎_elim (λ parts. left None _ parts e) (λ parts. left None _ parts e) (pieces rest)

  pub step : (m : ℕ) → numeral_of (before_first space rest) ≡ Some m → m < 10000000 → Sofar body n (k + 1) (set out k m) (after_first space rest)
  step m e few =
      let old = h.going l in
      let wide : k < length out = omega (arith, h.size) in
      let size = length-set out k m ∙ h.size in
      let small : All (λ x. x < 10000000) (take (k + 1) (set out k m)) = rw (take_more_set out k m wide) (All-push (λ x. x < 10000000) (take k out) m h.small few) in
      ⊎_elim
      (λ parts. record {
        size = size;
        going = λ g. (omega (arith, old.0, ap length parts), left (Some m) _ parts e ∙ one_more k m out _ wide);
        done = λ z. absurd (omega (arith, old.0, ap length parts, some_piece (after_first space rest)));
        small = small;
      })
      (λ parts.
      let full : length (set out k m) ≤ k + 1 = omega (arith, size, old.0, ap length parts) in
      record {
        size = size;
        going = λ g. absurd (omega (arith, old.0, ap length parts));
        done = λ z. left (Some m) [] parts e ∙ one_more k m out (Some []) wide ∙ ap Some (append-nil _ ∙ take_all (k + 1) (set out k m) full);
        small = small;
      })
      (pieces rest)
