-- Names that are written one after another.
use Rattle.std.proofs.Common.{◌≡◌, ℕ, true, List, [], ◌∷◌, ◌++◌, is_ok, codes, decimal, Result, refl}
use Rattle.std.specs.Fmt.{HasWritten, IsPlainFormatter, WritesOnOk}
use Rattle.std.specs.declared.fmt.Error.{Error}
use Rattle.std.specs.declared.fmt.Formatter.{Formatter}
use Rattle.std.proofs.Output.{has_written_of_eq, has_written_append}
use Rattle.explain.specs.Words.{names_on, names_of}

module _ {W : Type 0} (took : W → List ℕ → W → Type 0) where
  -- f, with the members m and ms to be named, came to g, with n and ns: to name those there, and add a last word, is to have named all and added it
  pub record Leads (f : Formatter W) (m : ℕ) (ms : List ℕ) (g : Formatter W) (n : ℕ) (ns : List ℕ) : Type 0 where
    pub plain : IsPlainFormatter g
    pub rest : (word : List ℕ) (h : Formatter W) → HasWritten took g (names_on n ns ++ word) h → HasWritten took f (names_on m ms ++ word) h

  -- the first of several, those after it, and the last word
  pub names_all : (f g k h : Formatter W) (r t : Result (Unit {0}) Error) (m n last : ℕ) (all most ms ns : List ℕ)
      → all ≡ m ∷ most → most ≡ n ∷ ms → ns ≡ [] → is_ok r ≡ true
      → WritesOnOk took f r (codes "members " ++ decimal m) g → (IsPlainFormatter g → Leads g n ms k last ns)
      → WritesOnOk took k t (codes " and " ++ (decimal last ++ codes " together")) h
      → WritesOnOk took f t (names_of all) h
  names_all f g k h r t m n last all most ms ns e d z ok one on more plain is =
      let x = one plain ok in
      let y = on x.plain in
      let text : codes " and " ++ (decimal last ++ codes " together") ≡ names_on last ns ++ codes " together" = rw z refl in
      has_written_of_eq took _ _ _ _ (rw e (rw d refl)) (has_written_append took _ _ _ _ _ x (y.rest (codes " together") h (has_written_of_eq took _ _ _ _ text (more y.plain is))))
