-- Steps round a ring by their places, and lines that no ring of debts leads over.
use Rattle.std.proofs.Common.{◌≡◌, ℕ, zero, suc, ◌+◌, ◌-◌, ◌<◌, ◌≤◌, Bool, true, false, not, ◌&&◌, eqb, ◌≢◌, ◌⊎◌, List, [], ◌∷◌, ◌++◌, length, get_or, set, replicate, Some, None, Option, ℤ, pos, ◌-ℤ◌, neg_ℤ, ◌≤ℤ◌, ◌<ℤ◌, sym, refl, ap, ◌∙◌, subst, ap₂, subst₂, inl, inr, add-zero, add-one, arith}
use Rattle.std.proofs.lemmas.Int.{ints, by_lt_z}
use Rattle.std.proofs.lemmas.Bool.{and_parts, and_from, or_cases, or_left, or_right, eqb-true, eq-eqb, ne_eqb, cases_eq}
use Rattle.std.proofs.lemmas.List.{length-set, get_or_append_left, get_or_at, get_or-set_same, get_or-set_other, get_or-replicate}
use Rattle.std.specs.Option.{option_eq}
use Rattle.credit.specs.declared.line.Line.{Line}
use Rattle.credit.specs.Sums.{only, every}
use Rattle.credit.specs.Net.{no_line, bounded}
use Rattle.credit.specs.Pairs.{distinct}
use Rattle.credit.proofs.Sums.{every_at}
use Rattle.credit.proofs.Bounds.{Bounds, bounded_facts}
use Rattle.rings.specs.Rings.{line_owes, owes, walk, steps, has, once, on}
use Rattle.rings.specs.Steps.{DebtStep}
use Rattle.rings.specs.Rounds.{Apart, Rounds, Links, Under, Met, Ringed}
use Rattle.rings.proofs.Rings.{owed_at}

no : {X : Type 0} → ◌≡◌ {A = ℕ} 0 1 → X
no e = absurd (omega arith)

-- ---- who owes on a line
pub owes_cases : (x y : ℕ) (l : Line) → pos 0 <ℤ line_owes x y l → ((x ≡ l.b) × (y ≡ l.a) × (pos 0 <ℤ l.debt)) ⊎ ((x ≡ l.a) × (y ≡ l.b) × (l.debt <ℤ pos 0))
owes_cases x y l h = go (eqb x l.b && eqb y l.a) refl (eqb x l.a && eqb y l.b) refl h
  where
    go : (p : Bool) → (eqb x l.b && eqb y l.a) ≡ p → (q : Bool) → (eqb x l.a && eqb y l.b) ≡ q → pos 0 <ℤ (only p l.debt -ℤ only q l.debt)
        → ((x ≡ l.b) × (y ≡ l.a) × (pos 0 <ℤ l.debt)) ⊎ ((x ≡ l.a) × (y ≡ l.b) × (l.debt <ℤ pos 0))
    go true e true f k = absurd (omega (arith, ints, k))
    go true e false f k = let p = and_parts (eqb x l.b) (eqb y l.a) e in inl (eqb-true x l.b p.0, eqb-true y l.a p.1, omega (arith, ints, k))
    go false e true f k = let p = and_parts (eqb x l.a) (eqb y l.b) f in inr (eqb-true x l.a p.0, eqb-true y l.b p.1, omega (arith, ints, k))
    go false e false f k = absurd (omega (arith, ints, k))

-- on a line one pair alone owes
pub owes_one : (x y u v : ℕ) (l : Line) → pos 0 <ℤ line_owes x y l → pos 0 <ℤ line_owes u v l → (u ≡ x) × (v ≡ y)
owes_one x y u v l o q = go (owes_cases x y l o) (owes_cases u v l q)
  where
    go : ((x ≡ l.b) × (y ≡ l.a) × (pos 0 <ℤ l.debt)) ⊎ ((x ≡ l.a) × (y ≡ l.b) × (l.debt <ℤ pos 0)) → ((u ≡ l.b) × (v ≡ l.a) × (pos 0 <ℤ l.debt)) ⊎ ((u ≡ l.a) × (v ≡ l.b) × (l.debt <ℤ pos 0)) → (u ≡ x) × (v ≡ y)
    go (inl h) (inl k) = (k.0 ∙ sym h.0, k.1 ∙ sym h.1)
    go (inl h) (inr k) = absurd (omega (arith, ints, h.2, k.2))
    go (inr h) (inl k) = absurd (omega (arith, ints, h.2, k.2))
    go (inr h) (inr k) = (k.0 ∙ sym h.0, k.1 ∙ sym h.1)

-- and none where there is no debt
pub owes_nobody : (x y : ℕ) (l : Line) → l.debt ≡ pos 0 → pos 0 <ℤ line_owes x y l → ⊥
owes_nobody x y l z o = go (owes_cases x y l o)
  where
    go : ((x ≡ l.b) × (y ≡ l.a) × (pos 0 <ℤ l.debt)) ⊎ ((x ≡ l.a) × (y ≡ l.b) × (l.debt <ℤ pos 0)) → ⊥
    go (inl h) = omega (arith, ints, z, h.2)
    go (inr h) = omega (arith, ints, z, h.2)

pub owes_onward : (l : Line) → l.a < l.b → line_owes l.b l.a l ≡ l.debt
owes_onward l h =
    let f : eqb l.b l.a ≡ false = ne_eqb l.b l.a (omega arith) in
    let ea : eqb l.a l.a ≡ true = eq-eqb l.a l.a refl in
    let eb : eqb l.b l.b ≡ true = eq-eqb l.b l.b refl in
    rw (eb, ea, f) (omega (arith, ints))

pub owes_back : (l : Line) → l.a < l.b → line_owes l.a l.b l ≡ neg_ℤ l.debt
owes_back l h =
    let g : eqb l.a l.b ≡ false = ne_eqb l.a l.b (omega arith) in
    let ea : eqb l.a l.a ≡ true = eq-eqb l.a l.a refl in
    let eb : eqb l.b l.b ≡ true = eq-eqb l.b l.b refl in
    rw (g, ea, eb) (omega (arith, ints))

-- who owes something over all lines owes on one
pub step_from_owes : (x y : ℕ) (ls : List Line) → pos 0 <ℤ owes x y ls → DebtStep ls x y
step_from_owes x y [] h = absurd (omega (arith, ints, h))
step_from_owes x y (l ∷ ls) h = go (by_lt_z (pos 0) (line_owes x y l) inl inr) (step_from_owes x y ls)
  where
    go : (pos 0 <ℤ line_owes x y l) ⊎ (line_owes x y l ≤ℤ pos 0) → (pos 0 <ℤ owes x y ls → DebtStep ls x y) → DebtStep (l ∷ ls) x y
    go (inl k) ih = (0, omega arith, k)
    go (inr k) ih = let s = ih (omega (arith, ints, h, k)) in (suc s.0, omega (arith, s.1), s.2)

pub step_members : (x y : ℕ) (ls : List Line) → every bounded ls ≡ true → DebtStep ls x y → (x < 64) × (y < 64)
step_members x y ls b s =
    let f = bounded_facts (get_or ls s.0 no_line) (every_at bounded ls s.0 no_line b s.1) in
    go f (owes_cases x y (get_or ls s.0 no_line) s.2)
  where
    go : Bounds (get_or ls s.0 no_line) → ((x ≡ (get_or ls s.0 no_line).b) × (y ≡ (get_or ls s.0 no_line).a) × (pos 0 <ℤ (get_or ls s.0 no_line).debt)) ⊎ ((x ≡ (get_or ls s.0 no_line).a) × (y ≡ (get_or ls s.0 no_line).b) × ((get_or ls s.0 no_line).debt <ℤ pos 0)) → (x < 64) × (y < 64)
    go f (inl k) = (omega (arith, f.high, k.0), omega (arith, f.high, f.order, k.1))
    go f (inr k) = (omega (arith, f.high, f.order, k.0), omega (arith, f.high, k.1))

-- what is owed on the one line of a pair is all that is owed
owes_same : (x y : ℕ) (l : Line) (ls : List Line) → l.a < l.b → owes l.b l.a ls ≡ l.debt → owes l.a l.b ls ≡ neg_ℤ l.debt → pos 0 <ℤ line_owes x y l → owes x y ls ≡ line_owes x y l
owes_same x y l ls h p q o = go (owes_cases x y l o)
  where
    go : ((x ≡ l.b) × (y ≡ l.a) × (pos 0 <ℤ l.debt)) ⊎ ((x ≡ l.a) × (y ≡ l.b) × (l.debt <ℤ pos 0)) → owes x y ls ≡ line_owes x y l
    go (inl k) = subst₂ (λ (u v : ℕ). owes u v ls ≡ line_owes u v l) (sym k.0) (sym k.1) (p ∙ sym (owes_onward l h))
    go (inr k) = subst₂ (λ (u v : ℕ). owes u v ls ≡ line_owes u v l) (sym k.0) (sym k.1) (q ∙ sym (owes_back l h))

pub owes_at : (x y : ℕ) (ls : List Line) → distinct ls ≡ true → every bounded ls ≡ true → (s : DebtStep ls x y) → owes x y ls ≡ line_owes x y (get_or ls s.0 no_line)
owes_at x y ls d b s =
    let o = owed_at ls s.0 d b s.1 in
    owes_same x y (get_or ls s.0 no_line) ls (bounded_facts (get_or ls s.0 no_line) (every_at bounded ls s.0 no_line b s.1)).order o.0 o.1 s.2

-- ---- steps by their places
-- member i of a walk is followed by entry i of what comes after its start
on_place : (x y here : ℕ) (ms : List ℕ) (goal : ℕ) → on x y (walk here ms goal) ≡ true → (i : ℕ) × (i ≤ length ms) × (get_or (here ∷ ms) i 0 ≡ x) × (get_or (ms ++ (goal ∷ [])) i 0 ≡ y)
on_place x y here [] goal e = go (or_cases (eqb here x && eqb goal y) false e)
  where
    go : ((eqb here x && eqb goal y) ≡ true) ⊎ (false ≡ true) → (i : ℕ) × (i ≤ 0) × (get_or (here ∷ []) i 0 ≡ x) × (get_or (goal ∷ []) i 0 ≡ y)
    go (inl h) = let k = and_parts (eqb here x) (eqb goal y) h in (0, omega arith, eqb-true here x k.0, eqb-true goal y k.1)
    go (inr h) = let z : ◌≡◌ {A = ℕ} 0 1 = cc in no z
on_place x y here (k ∷ ms) goal e = go (or_cases (eqb here x && eqb k y) (on x y (walk k ms goal)) e) (on_place x y k ms goal)
  where
    go : ((eqb here x && eqb k y) ≡ true) ⊎ (on x y (walk k ms goal) ≡ true)
        → (on x y (walk k ms goal) ≡ true → (i : ℕ) × (i ≤ length ms) × (get_or (k ∷ ms) i 0 ≡ x) × (get_or (ms ++ (goal ∷ [])) i 0 ≡ y))
        → (i : ℕ) × (i ≤ suc (length ms)) × (get_or (here ∷ (k ∷ ms)) i 0 ≡ x) × (get_or ((k ∷ ms) ++ (goal ∷ [])) i 0 ≡ y)
    go (inl h) ih = let p = and_parts (eqb here x) (eqb k y) h in (0, omega arith, eqb-true here x p.0, eqb-true k y p.1)
    go (inr h) ih = let p = ih h in (suc p.0, omega (arith, p.1), p.2, p.3)

pub on_self : (x y : ℕ) (ss : List (ℕ × ℕ)) → on x y ((x, y) ∷ ss) ≡ true
on_self x y ss = or_left (eqb x x && eqb y y) (on x y ss) (and_from (eqb x x) (eqb y y) (eq-eqb x x refl) (eq-eqb y y refl))

place_on : (i here : ℕ) (ms : List ℕ) (goal : ℕ) → i ≤ length ms → on (get_or (here ∷ ms) i 0) (get_or (ms ++ (goal ∷ [])) i 0) (walk here ms goal) ≡ true
place_on zero here [] goal h = on_self here goal []
place_on (suc i) here [] goal h = absurd (omega arith)
place_on zero here (k ∷ ms) goal h = on_self here k (walk k ms goal)
place_on (suc i) here (k ∷ ms) goal h =
    or_right (eqb here (get_or (k ∷ ms) i 0) && eqb k (get_or (ms ++ (goal ∷ [])) i 0)) (on (get_or (k ∷ ms) i 0) (get_or (ms ++ (goal ∷ [])) i 0) (walk k ms goal)) (place_on i k ms goal (omega arith))

-- who follows member i of a chain round
abbrev after : List ℕ → ℕ → ℕ
after [] i = 0
after (m ∷ ms) i = get_or (ms ++ (m ∷ [])) i 0

after_last : (c : List ℕ) (k : ℕ) → length c ≡ k + 1 → after c k ≡ get_or c 0 0
after_last [] k n = absurd (omega arith)
after_last (m ∷ ms) k n = get_or_at ms m [] 0 k (omega arith)

after_inner : (c : List ℕ) (i : ℕ) → i + 1 < length c → after c i ≡ get_or c (i + 1) 0
after_inner [] i h = absurd (omega arith)
after_inner (m ∷ ms) i h = get_or_append_left ms (m ∷ []) 0 i (omega arith) ∙ ap (λ (n : ℕ). get_or (m ∷ ms) n 0) (sym (add-one i))

pub steps_place : (c : List ℕ) (x y : ℕ) → on x y (steps c) ≡ true → (i : ℕ) × (i < length c) × (get_or c i 0 ≡ x) × (after c i ≡ y)
steps_place [] x y e = let z : ◌≡◌ {A = ℕ} 0 1 = cc in no z
steps_place (m ∷ ms) x y e = let p = on_place x y m ms m e in (p.0, omega (arith, p.1), p.2, p.3)

pub place_steps : (c : List ℕ) (i : ℕ) → i < length c → on (get_or c i 0) (after c i) (steps c) ≡ true
place_steps [] i h = absurd (omega arith)
place_steps (m ∷ ms) i h = place_on i m ms m (omega arith)

pub closing_on : (c : List ℕ) (k : ℕ) → length c ≡ k + 1 → on (get_or c k 0) (get_or c 0 0) (steps c) ≡ true
closing_on c k n = ap (λ (m : ℕ). on (get_or c k 0) m (steps c)) (sym (after_last c k n)) ∙ place_steps c k (omega arith)

-- ---- the table of whom each member owes on a ring
both_true : (p q : Bool) → (p ≡ true → q ≡ true) → (q ≡ true → p ≡ true) → p ≡ q
both_true true q f g = sym (f refl)
both_true false true f g = g refl
both_true false false f g = refl

-- the table names y at x
names : (o : Option ℕ) (y : ℕ) → option_eq eqb o (Some y) ≡ true → o ≡ Some y
names None y e = let z : ◌≡◌ {A = ℕ} 0 1 = cc in no z
names (Some x) y e = ap Some (eqb-true x y e)

-- the first i steps of the chain stand in the table, and nothing else
pub record Linking (c : List ℕ) (next : List (Option ℕ)) (i : ℕ) : Type 0 where
  pub long : length next ≡ 64
  pub led : (j : ℕ) → j < i → get_or next (get_or c j 0) None ≡ Some (get_or c (j + 1) 0)
  pub rest : (m : ℕ) → m < 64 → (get_or next m None ≡ None) ⊎ ((j : ℕ) × (j < i) × (get_or c j 0 ≡ m))

pub linking_none : (c : List ℕ) → Linking c (replicate 64 None) 0
linking_none c = record { long = refl; led = λ j h. absurd (omega arith); rest = λ m h. inl (get_or-replicate 64 m None None h) }

linking_more : (c : List ℕ) (next : List (Option ℕ)) (i : ℕ) → Apart c → i + 1 < length c → Linking c next i → Linking c (set next (get_or c i 0) (Some (get_or c (i + 1) 0))) (i + 1)
linking_more c next i a h l = record { long = length-set next (get_or c i 0) (Some (get_or c (i + 1) 0)) ∙ l.long; led = led'; rest = rest' }
  where
    led' : (j : ℕ) → j < i + 1 → get_or (set next (get_or c i 0) (Some (get_or c (i + 1) 0))) (get_or c j 0) None ≡ Some (get_or c (j + 1) 0)
    led' j g = by (cases_eq j i)
      where
        by : (j ≡ i) ⊎ (j ≡ i → ⊥) → get_or (set next (get_or c i 0) (Some (get_or c (i + 1) 0))) (get_or c j 0) None ≡ Some (get_or c (j + 1) 0)
        by (inl e) = subst (λ (n : ℕ). get_or (set next (get_or c i 0) (Some (get_or c (i + 1) 0))) (get_or c n 0) None ≡ Some (get_or c (n + 1) 0)) (sym e) (get_or-set_same next (get_or c i 0) (Some (get_or c (i + 1) 0)) None (omega (arith, l.long, a.members i (omega arith))))
        by (inr d) = get_or-set_other next (get_or c i 0) (get_or c j 0) (Some (get_or c (i + 1) 0)) None (λ e. d (a.apart j i (omega arith) (omega arith) e)) ∙ l.led j (omega (arith, d))

    rest' : (m : ℕ) → m < 64 → (get_or (set next (get_or c i 0) (Some (get_or c (i + 1) 0))) m None ≡ None) ⊎ ((j : ℕ) × (j < i + 1) × (get_or c j 0 ≡ m))
    rest' m g = by (cases_eq m (get_or c i 0)) (l.rest m g)
      where
        by : (m ≡ get_or c i 0) ⊎ (m ≡ get_or c i 0 → ⊥) → (get_or next m None ≡ None) ⊎ ((j : ℕ) × (j < i) × (get_or c j 0 ≡ m)) → (get_or (set next (get_or c i 0) (Some (get_or c (i + 1) 0))) m None ≡ None) ⊎ ((j : ℕ) × (j < i + 1) × (get_or c j 0 ≡ m))
        by (inl e) r = inr (i, omega arith, sym e)
        by (inr d) (inl r) = inl (get_or-set_other next (get_or c i 0) m (Some (get_or c (i + 1) 0)) None d ∙ r)
        by (inr d) (inr r) = inr (r.0, omega (arith, r.1), r.2)

-- the next window of two members is noted
pub linking_next : (c : List ℕ) (next : List (Option ℕ)) (i j x y : ℕ) → Apart c → i + 1 < length c → Linking c next i → j ≡ i + 1
    → x ≡ get_or c (i + 0) 0 → y ≡ get_or c (i + 1) 0 → Linking c (set next x (Some y)) j
linking_next c next i j x y a h l n e f =
    let g : x ≡ get_or c i 0 = rw add-zero at e in
    rw (n, f, g) (linking_more c next i a h l)

-- the last member's creditor is the first
linking_all : (c : List ℕ) (next : List (Option ℕ)) (k : ℕ) → Apart c → length c ≡ k + 1 → Linking c next k → Links (set next (get_or c k 0) (Some (get_or c 0 0))) c
linking_all c next k a n l x y hx hy = both_true (option_eq eqb (get_or shut x None) (Some y)) (on x y (steps c)) onward back
  where
    shut : List (Option ℕ)
    shut = set next (get_or c k 0) (Some (get_or c 0 0))

    same : get_or shut (get_or c k 0) None ≡ Some (get_or c 0 0)
    same = get_or-set_same next (get_or c k 0) (Some (get_or c 0 0)) None (omega (arith, l.long, a.members k (omega arith)))

    other : (m : ℕ) → m ≢ get_or c k 0 → get_or shut m None ≡ get_or next m None
    other m d = get_or-set_other next (get_or c k 0) m (Some (get_or c 0 0)) None d

    -- the table names whom each member of the chain is followed by
    named : (i : ℕ) → i < length c → get_or shut (get_or c i 0) None ≡ Some (after c i)
    named i h = by (cases_eq i k)
      where
        by : (i ≡ k) ⊎ (i ≡ k → ⊥) → get_or shut (get_or c i 0) None ≡ Some (after c i)
        by (inl e) = subst (λ (j : ℕ). get_or shut (get_or c j 0) None ≡ Some (after c j)) (sym e) (same ∙ ap Some (sym (after_last c k n)))
        by (inr d) =
            let lt : i < k = omega (arith, d, n, h) in
            other (get_or c i 0) (λ e. d (a.apart i k h (omega arith) e)) ∙ l.led i lt ∙ ap Some (sym (after_inner c i (omega arith)))

    back : on x y (steps c) ≡ true → option_eq eqb (get_or shut x None) (Some y) ≡ true
    back e =
        let p = steps_place c x y e in
        ap (λ (o : Option ℕ). option_eq eqb o (Some y)) (ap (λ (m : ℕ). get_or shut m None) (sym p.2) ∙ named p.0 p.1 ∙ ap Some p.3) ∙ eq-eqb y y refl

    onward : option_eq eqb (get_or shut x None) (Some y) ≡ true → on x y (steps c) ≡ true
    onward e = place (stands (cases_eq x (get_or c k 0)) (l.rest x hx))
      where
        is : get_or shut x None ≡ Some y
        is = names (get_or shut x None) y e

        stands : (x ≡ get_or c k 0) ⊎ (x ≡ get_or c k 0 → ⊥) → (get_or next x None ≡ None) ⊎ ((j : ℕ) × (j < k) × (get_or c j 0 ≡ x)) → (j : ℕ) × (j < length c) × (get_or c j 0 ≡ x)
        stands (inl h) r = (k, omega arith, sym h)
        stands (inr d) (inl r) = let z : ◌≡◌ {A = Option ℕ} None (Some y) = sym r ∙ sym (other x d) ∙ is in cc
        stands (inr d) (inr r) = (r.0, omega (arith, r.1, n), r.2)

        place : (j : ℕ) × (j < length c) × (get_or c j 0 ≡ x) → on x y (steps c) ≡ true
        place p =
            let f : Some (after c p.0) ≡ Some y = sym (named p.0 p.1) ∙ ap (λ (m : ℕ). get_or shut m None) p.2 ∙ is in
            let g : after c p.0 ≡ y = cc in
            sym (ap₂ (λ (u v : ℕ). on u v (steps c)) p.2 g) ∙ place_steps c p.0 p.1

pub linking_shut : (c s : List ℕ) (next ks : List (Option ℕ)) (k : ℕ) → Apart c → length c ≡ k + 1 → Linking c next k → s ≡ c
    → ks ≡ set next (get_or s (length s - 1) 0) (Some (get_or s 0 0)) → Links ks c
linking_shut c s next ks k a n l e f =
    let m : length c - 1 ≡ k = omega arith in
    rw (f, e, m) (linking_all c next k a n l)

-- ---- no member twice
has_place : (m : ℕ) (ms : List ℕ) → has m ms ≡ true → (j : ℕ) × (j < length ms) × (get_or ms j 0 ≡ m)
has_place m [] e = let z : ◌≡◌ {A = ℕ} 0 1 = cc in no z
has_place m (k ∷ ms) e = go (or_cases (eqb m k) (has m ms) e) (has_place m ms)
  where
    go : (eqb m k ≡ true) ⊎ (has m ms ≡ true) → (has m ms ≡ true → (j : ℕ) × (j < length ms) × (get_or ms j 0 ≡ m)) → (j : ℕ) × (j < suc (length ms)) × (get_or (k ∷ ms) j 0 ≡ m)
    go (inl h) ih = (0, omega arith, sym (eqb-true m k h))
    go (inr h) ih = let p = ih h in (suc p.0, omega (arith, p.1), p.2)

once_from : (ms : List ℕ) → ((i j : ℕ) → i < length ms → j < length ms → get_or ms i 0 ≡ get_or ms j 0 → i ≡ j) → once ms ≡ true
once_from [] a = refl
once_from (m ∷ ms) a = and_from (not (has m ms)) (once ms) (lacks (has m ms) refl) (once_from ms (λ i j h g e. let p = a (suc i) (suc j) (omega arith) (omega arith) e in omega (arith, p)))
  where
    lacks : (b : Bool) → has m ms ≡ b → not (has m ms) ≡ true
    lacks true e = let p = has_place m ms e in absurd (omega (arith, a 0 (suc p.0) (omega arith) (omega (arith, p.1)) (sym p.2)))
    lacks false e = ap not e

pub apart_once : (c : List ℕ) → Apart c → once c ≡ true
apart_once c a = once_from c a.apart

-- ---- a chain of debts that closes is a ring, once its least debt is known
pub rounds_ringed : (ls : List Line) (c : List ℕ) → Rounds ls c → Ringed ls c
rounds_ringed ls c r x y e = go (steps_place c x y e)
  where
    k : ℕ
    k = length c - 1

    n : length c ≡ k + 1
    n = omega (arith, r.three)

    go : (i : ℕ) × (i < length c) × (get_or c i 0 ≡ x) × (after c i ≡ y) → DebtStep ls x y
    go p = subst₂ (λ (u v : ℕ). DebtStep ls u v) p.2 p.3 (at (cases_eq p.0 k))
      where
        at : (p.0 ≡ k) ⊎ (p.0 ≡ k → ⊥) → DebtStep ls (get_or c p.0 0) (after c p.0)
        at (inl h) = subst (λ (i : ℕ). DebtStep ls (get_or c i 0) (after c i)) (sym h) (subst (λ (m : ℕ). DebtStep ls (get_or c k 0) m) (sym (after_last c k n)) r.closing)
        at (inr d) =
            let lt : p.0 + 1 < length c = omega (arith, d, p.1, n) in
            subst (λ (m : ℕ). DebtStep ls (get_or c p.0 0) m) (sym (after_inner c p.0 lt)) (r.linked p.0 lt)

pub under_step : (ms : List ℕ) (v : ℤ) (l : Line) (x y : ℕ) → l.a < l.b → Under ms v l → pos 0 <ℤ line_owes x y l → on x y (steps ms) ≡ true → v ≤ℤ line_owes x y l
under_step ms v l x y h u o e = go (owes_cases x y l o)
  where
    go : ((x ≡ l.b) × (y ≡ l.a) × (pos 0 <ℤ l.debt)) ⊎ ((x ≡ l.a) × (y ≡ l.b) × (l.debt <ℤ pos 0)) → v ≤ℤ line_owes x y l
    go (inl k) = subst₂ (λ (s t : ℕ). v ≤ℤ line_owes s t l) (sym k.0) (sym k.1) (omega (arith, ints, owes_onward l h, u.0 (sym (ap₂ (λ (s t : ℕ). on s t (steps ms)) k.0 k.1) ∙ e)))
    go (inr k) = subst₂ (λ (s t : ℕ). v ≤ℤ line_owes s t l) (sym k.0) (sym k.1) (omega (arith, ints, owes_back l h, u.1 (sym (ap₂ (λ (s t : ℕ). on s t (steps ms)) k.0 k.1) ∙ e)))

pub met_step : (ms : List ℕ) (v : ℤ) (l : Line) → l.a < l.b → Met ms v l → (x : ℕ) × (y : ℕ) × (on x y (steps ms) ≡ true) × (v ≡ line_owes x y l) × (((x ≡ l.b) × (y ≡ l.a)) ⊎ ((x ≡ l.a) × (y ≡ l.b)))
met_step ms v l h (inl m) = (l.b, l.a, m.0, m.1 ∙ sym (owes_onward l h), inl (refl, refl))
met_step ms v l h (inr m) = (l.a, l.b, m.0, m.1 ∙ sym (owes_back l h), inr (refl, refl))
