-- How a chain is written from its end back.
use Rattle.std.proofs.Common.{◌≡◌, ℕ, zero, suc, ◌+◌, ◌<◌, ◌≤◌, List, [], ◌∷◌, ◌++◌, get_or, reverse, replicate, sym, refl, ap, add-one, arith}
use Rattle.std.proofs.lemmas.List.{reverse-append}
use Rattle.search.specs.Levels.{Members, Traced}

-- c leads in k steps from `at` to the goal
pub record Tracing (before : List ℕ) (goal k at : ℕ) (c : List ℕ) : Type 0 where
  pub first : get_or c 0 0 ≡ at
  pub small : at < 64
  pub traced : Traced before goal k c

module _ (before : List ℕ) (goal k at : ℕ) (c : List ℕ) (small : Members before) (t : Tracing before goal k at c) where
  abbrev v : ℕ
  v = get_or before at 0

  above : (i : ℕ) → i ≤ k + 1 → get_or (v ∷ c) i 0 < 64
  above zero h = small at t.small
  above (suc i) h = t.traced.members i (omega arith)

  behind : (i : ℕ) → i < k + 1 → get_or (v ∷ c) i 0 ≡ get_or before (get_or (v ∷ c) (i + 1) 0) 0
  behind zero h = ap (λ x. get_or before x 0) (sym t.first)
  behind (suc i) h = rw (add-one (suc i)) (rw (add-one i) at (t.traced.back i (omega arith)))

  written : Tracing before goal (k + 1) v (v ∷ c)
  written =
      record {
        first = refl;
        small = small at t.small;
        traced = record {
          long = omega (arith, t.traced.long);
          last = rw add-one t.traced.last;
          members = above;
          back = behind;
        };
      }

-- one member more is written
pub pushed : (before : List ℕ) (goal k at : ℕ) (xs : List ℕ) → Members before → Tracing before goal k at (reverse xs) →
    Tracing before goal (k + 1) (get_or before at 0) (reverse (xs ++ get_or before at 0 ∷ []))
pushed before goal k at xs small t = rw (reverse-append xs (get_or before at 0 ∷ [])) (written before goal k at (reverse xs) small t)

pub none_yet : (k n : ℕ) → get_or (replicate k 0) n 0 < 64
none_yet zero n = omega arith
none_yet (suc k) zero = omega arith
none_yet (suc k) (suc n) = none_yet k n
