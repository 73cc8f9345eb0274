-- The parts of a statement, one after another.
use Rattle.std.proofs.Common.{◌≡◌, ℕ, zero, suc, ◌<◌, List, [], ◌∷◌, map, length, get_or, arith}
use Rattle.std.specs.List.{zip}

-- in a table of f each place is paired with its value
pub paired : {X Y : Type 0} (f : X → Y) (xs : List X) (k : ℕ) (p : X × Y) → k < length (zip xs (map f xs)) → p ≡ get_or (zip xs (map f xs)) k p → p.1 ≡ f p.0
paired f [] k p h e = absurd (omega arith)
paired f (x ∷ xs) zero p h e = cc
paired f (x ∷ xs) (suc k) p h e = paired f xs k p (omega arith) e
