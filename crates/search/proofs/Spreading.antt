-- How one level of the search grows: `rest` is what is left of the frontier.
use Rattle.std.proofs.Common.{◌≡◌, ℕ, ◌<◌, not, ◌&&◌, ◌||◌, cond, ◌⊎◌, List, length, get_or, set, sym, ◌∙◌, subst, inl, inr, arith, get_or-set_other, get_or-set_same}
use Rattle.members.specs.Groups.{inside, Has}
use Rattle.members.specs.Walks.{Took}
use Rattle.search.specs.Levels.{Members, Met}

-- where n is reached from once each of the group is noted as reached from m
abbrev pub noted : (group m : ℕ) (before : List ℕ) → ℕ → ℕ
noted group m before n = cond (inside group n) m (get_or before n 0)

pub record Spreading (S : ℕ → ℕ → Type 0) (frontier seen goal : ℕ) (old : List ℕ) (rest next : ℕ) (new : List ℕ) : Type 0 where
  pub sub : (n : ℕ) → Has rest n → Has frontier n
  pub unseen : (n : ℕ) → Has next n → Has seen n → ⊥
  pub from : (n : ℕ) → Has next n → Has frontier (get_or new n 0) × S (get_or new n 0) n
  pub same : (n : ℕ) → (Has next n → ⊥) → get_or new n 0 ≡ get_or old n 0
  pub done : (k n : ℕ) → n < 64 → Has frontier k → (Has rest k → ⊥) → S k n → Has seen n ⊎ Has next n
  pub lacks : Has next goal → ⊥
  pub small : Members new

eq_or_not : (a b : ℕ) → (a ≡ b) ⊎ (a ≡ b → ⊥)
eq_or_not a b = grind arith

-- m is taken out of the frontier, and the goal is among those that it reaches outside seen and next
pub meets : (S : ℕ → ℕ → Type 0) (frontier seen goal : ℕ) (old : List ℕ) (rest next : ℕ) (new : List ℕ) → Spreading S frontier seen goal old rest next new →
    (rest' m known fresh r : ℕ) → Took rest m rest' → ((n : ℕ) → Has r n → S m n) →
    ((n : ℕ) → inside known n ≡ (inside seen n || inside next n)) →
    ((n : ℕ) → inside fresh n ≡ (inside r n && not (inside known n))) →
    Has fresh goal → goal < length new → Met S frontier seen goal old (set new goal m)
meets S frontier seen goal old rest next new s rest' m known fresh r took sound known_is fresh_is h lt =
    let step : Has r goal = grind (arith, fresh_is goal) in
    let unseen : Has seen goal → ⊥ = λ y. grind (arith, fresh_is goal, known_is goal) in
    let here : get_or (set new goal m) goal 0 ≡ m = rw get_or-set_same in
    let elsewhere : (k : ℕ) → (k ≡ goal → ⊥) → get_or (set new goal m) k 0 ≡ get_or new k 0 = λ k d. rw get_or-set_other in
    record {
      from = subst (λ x. Has frontier x × S x goal) (sym here) (s.sub m took.holds, sound goal step);
      same = λ k y. elsewhere k (λ e. unseen (subst (λ x. Has seen x) e y)) ∙ s.same k (λ z. s.unseen k z y);
      small = λ k l.
          elim (eq_or_not k goal) [
            | inl e ↦ subst (λ x. get_or (set new goal m) x 0 < 64) (sym e) (subst (λ x. x < 64) (sym here) took.small)
            | inr d ↦ subst (λ x. x < 64) (sym (elsewhere k d)) (s.small k l)
          ];
    }
