-- The numbers of a form.
use Rattle.std.specs.Prelude.{ℕ, cond, List, [], ◌∷◌, length, Some, None, Err, Option, Result, ◌==◌}
use Rattle.std.specs.Option.{ok_or}
use Rattle.credit.specs.declared.refusal.Refusal.{Refusal}
use Rattle.credit.specs.declared.refusal.Refusal.TheVariants.{WrongParts, NotANumber}
use Rattle.batch.specs.Grammar.{closed}
use Rattle.batch.specs.Numbers.{numeral_of}
use Rattle.batch.specs.Pieces.{cut}

-- both, where both are there
abbrev pub ahead : Option ℕ → Option (List ℕ) → Option (List ℕ)
ahead None ns = None
ahead (Some n) None = None
ahead (Some n) (Some ns) = Some (n ∷ ns)

-- the number of each piece, or none where a piece is no number
abbrev pub numbers_of : List (List ℕ) → Option (List ℕ)
numbers_of [] = Some []
numbers_of (p ∷ ps) = ahead (numeral_of p) (numbers_of ps)

-- k numbers between single spaces, and then `)`
abbrev pub body_of : ℕ → Option (List ℕ) → Result (List ℕ) Refusal
body_of k None = Err WrongParts
body_of k (Some body) = cond (length (cut 32 body) == k) (ok_or (numbers_of (cut 32 body)) NotANumber) (Err WrongParts)

abbrev pub parts_of : ℕ → List ℕ → Result (List ℕ) Refusal
parts_of k rest = body_of k (closed rest)
