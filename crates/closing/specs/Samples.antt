-- Worked examples of ledgers that differ only in debts, and of batches that ask the same.
use Rattle.std.specs.Prelude.{ℕ, [], ◌∷◌, ℤ, pos, neg_ℤ, None, codes}
use Rattle.credit.specs.declared.line.Line.{Line}
use Rattle.ledger.specs.States.{State}
use Rattle.closing.specs.Agrees.{Alike, SameAsked}

-- a line with trust of 9 both ways and a debt
abbrev pub owing : ℕ → ℕ → ℤ → Line
owing a b d = record { a = a; b = b; trust_a = pos 9; trust_b = pos 9; debt = d }

-- lines 1 2, 2 3 and 1 3 with these debts
abbrev pub triangle : ℤ → ℤ → ℤ → State
triangle d e f = record { lines = owing 1 2 d ∷ owing 2 3 e ∷ owing 1 3 f ∷ []; groups = []; standing = None }

-- 1 owes 3 four
abbrev pub straight : State
straight = triangle (pos 0) (pos 0) (neg_ℤ (pos 4))

-- 1 owes 2 four, and 2 owes 3 four
abbrev pub roundabout : State
roundabout = triangle (neg_ℤ (pos 4)) (neg_ℤ (pos 4)) (pos 0)

pub record Samples : Type 0 where
  pub alike : Alike straight roundabout
  pub unlike : Alike straight (triangle (pos 0) (pos 0) (pos 0)) → ⊥
  pub same_asked : SameAsked (codes "(route kept)") (codes "(route scaling)")
  pub other_asked : SameAsked (codes "(tidy)") [] → ⊥
