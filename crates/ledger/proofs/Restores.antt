-- Debts given back, line by line.
use Rattle.std.proofs.Common.{◌≡◌, ℕ, zero, suc, ◌+◌, ◌<◌, ◌≤◌, List, [], ◌∷◌, length, get_or, take, set, ℤ, refl, ap, add-one, arith}
use Rattle.credit.specs.declared.line.Line.{Line}
use Rattle.credit.specs.Plans.{with_debt}
use Rattle.ledger.specs.Debts.{with_debts}

-- the first debts given back, the rest as it is
abbrev pub overlay : List Line → List ℤ → List Line
overlay [] ds = []
overlay (l ∷ ls) [] = l ∷ ls
overlay (l ∷ ls) (d ∷ ds) = with_debt l d ∷ overlay ls ds

pub overlay_none : (ls : List Line) → overlay ls [] ≡ ls
overlay_none [] = refl
overlay_none (l ∷ ls) = refl

overlay_suc : (ls : List Line) (xs : List ℤ) (i : ℕ) (d : Line) (e : ℤ) → i < length ls → i < length xs
    → overlay ls (take (suc i) xs) ≡ set (overlay ls (take i xs)) i (with_debt (get_or (overlay ls (take i xs)) i d) (get_or xs i e))
overlay_suc [] xs i d e h k = absurd (omega arith)
overlay_suc (l ∷ ls) [] i d e h k = absurd (omega arith)
overlay_suc (l ∷ ls) (x ∷ xs) zero d e h k = ap (λ t. with_debt l x ∷ t) (overlay_none ls)
overlay_suc (l ∷ ls) (x ∷ xs) (suc i) d e h k = ap (λ t. with_debt l x ∷ t) (overlay_suc ls xs i d e (omega arith) (omega arith))

pub overlay_more : (ls : List Line) (xs : List ℤ) (i : ℕ) (d : Line) (e : ℤ) → i < length ls → i < length xs
    → overlay ls (take (i + 1) xs) ≡ set (overlay ls (take i xs)) i (with_debt (get_or (overlay ls (take i xs)) i d) (get_or xs i e))
overlay_more ls xs i d e h k = rw add-one (overlay_suc ls xs i d e h k)

pub overlay_all : (ls : List Line) (xs : List ℤ) (n : ℕ) → length ls ≤ n → length ls ≤ length xs → overlay ls (take n xs) ≡ with_debts ls xs
overlay_all [] xs n h k = refl
overlay_all (l ∷ ls) [] n h k = absurd (omega arith)
overlay_all (l ∷ ls) (x ∷ xs) zero h k = absurd (omega arith)
overlay_all (l ∷ ls) (x ∷ xs) (suc n) h k = ap (λ t. with_debt l x ∷ t) (overlay_all ls xs n (omega arith) (omega arith))
