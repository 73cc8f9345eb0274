-- The ring that a chain of debts closes to, and lines that no ring leads over.
use Rattle.std.proofs.Common.{◌≡◌, ℕ, ◌+◌, ◌-◌, ◌<◌, ◌≤◌, Bool, true, false, ◌&&◌, ◌||◌, eqb, ◌≢◌, ◌⊎◌, List, [], ◌∷◌, ◌++◌, length, get_or, ℤ, Ok, Err, Result, MatchOption, pos, negsuc, ◌-ℤ◌, neg_ℤ, nat_abs, ◌≤ℤ◌, ◌<ℤ◌, sym, refl, ap, ◌∙◌, subst, ap₂, subst₂, inl, inr, arith, below_more}
use Rattle.std.proofs.lemmas.Int.{ints}
use Rattle.std.proofs.lemmas.Bool.{and_parts, or_cases, or_left, or_right, eqb-true, cases_eq}
use Rattle.lists.specs.Lists.{listed}
use Rattle.members.specs.Groups.{inside}
use Rattle.std.specs.Result.{result_ok}
use Rattle.search.specs.declared.chain.Chain.{Chain}
use Rattle.search.specs.declared.chain.NoChain.{NoChain}
use Rattle.search.specs.declared.chain.NoChain.TheVariants.{NotMembers, Closed}
use Rattle.search.specs.Answers.{Searched}
use Rattle.search.specs.Chains.{IsShortest, Separates}
use Rattle.credit.specs.declared.line.Line.{Line}
use Rattle.credit.specs.Sums.{only, every}
use Rattle.credit.specs.Net.{no_line, bounded}
use Rattle.credit.specs.Plans.{with_debt}
use Rattle.credit.specs.Pairs.{distinct}
use Rattle.credit.proofs.Sums.{every_at}
use Rattle.credit.proofs.Bounds.{Bounds, bounded_facts}
use Rattle.rings.specs.Rings.{line_owes, owes, walk, steps, on, Ring, cancel, Cancels, Tidied}
use Rattle.rings.specs.Steps.{DebtStep, Shrinks, Eases}
use Rattle.rings.specs.Rounds.{Apart, Rounds, RoundOver, Under, Met, Ringed, Clear, Reached}
use Rattle.rings.proofs.Rings.{ring_falls, owed_at, Keeps, cancels_keep}
use Rattle.rings.proofs.Stepping.{owes_cases, owes_one, owes_nobody, owes_onward, owes_back, step_from_owes, step_members, owes_at, apart_once, rounds_ringed, under_step, met_step, closing_on, on_self}

no : {X : Type 0} → ◌≡◌ {A = ℕ} 0 1 → X
no e = absurd (omega arith)

-- ---- the least debt of a ring
module _ (ls : List Line) (c : List ℕ) (d : distinct ls ≡ true) (b : every bounded ls ≡ true) (r : Rounds ls c) where
  at_order : (i : ℕ) → i < length ls → Bounds (get_or ls i no_line)
  at_order i h = bounded_facts (get_or ls i no_line) (every_at bounded ls i no_line b h)

  -- v is the least debt: it is under each, and one of them
  ring_met : (v : ℤ) → ((i : ℕ) → i < length ls → Under c v (get_or ls i no_line)) → (i : ℕ) × (i < length ls) × Met c v (get_or ls i no_line) → Ring ls c v
  ring_met v u m =
      let p = met_step c v (get_or ls m.0 no_line) (at_order m.0 m.1).order m.2 in
      let o = owed_at ls m.0 d b m.1 in
      let all = whole p.0 p.1 p.4 o in
      record {
        three = r.three;
        apart = apart_once c r.different;
        owing = owing;
        least = (p.0, p.1, p.2, all ∙ sym p.3);
        some = positive p.0 p.1 p.2 (all ∙ sym p.3);
      }
    where
      owing : (x y : ℕ) → on x y (steps c) ≡ true → v ≤ℤ owes x y ls
      owing x y e =
          let s = rounds_ringed ls c r x y e in
          omega (arith, ints, owes_at x y ls d b s, under_step c v (get_or ls s.0 no_line) x y (at_order s.0 s.1).order (u s.0 s.1) s.2 e)

      whole : (x y : ℕ) → ((x ≡ (get_or ls m.0 no_line).b) × (y ≡ (get_or ls m.0 no_line).a)) ⊎ ((x ≡ (get_or ls m.0 no_line).a) × (y ≡ (get_or ls m.0 no_line).b))
          → (owes (get_or ls m.0 no_line).b (get_or ls m.0 no_line).a ls ≡ (get_or ls m.0 no_line).debt) × (owes (get_or ls m.0 no_line).a (get_or ls m.0 no_line).b ls ≡ neg_ℤ (get_or ls m.0 no_line).debt)
          → owes x y ls ≡ line_owes x y (get_or ls m.0 no_line)
      whole x y (inl e) o = subst₂ (λ (s t : ℕ). owes s t ls ≡ line_owes s t (get_or ls m.0 no_line)) (sym e.0) (sym e.1) (o.0 ∙ sym (owes_onward (get_or ls m.0 no_line) (at_order m.0 m.1).order))
      whole x y (inr e) o = subst₂ (λ (s t : ℕ). owes s t ls ≡ line_owes s t (get_or ls m.0 no_line)) (sym e.0) (sym e.1) (o.1 ∙ sym (owes_back (get_or ls m.0 no_line) (at_order m.0 m.1).order))

      positive : (x y : ℕ) → on x y (steps c) ≡ true → owes x y ls ≡ v → pos 0 <ℤ v
      positive x y e f = let s = rounds_ringed ls c r x y e in omega (arith, ints, owes_at x y ls d b s, f, s.2)

  -- the same where v may still be the largest trust, from which the count down began
  pub ring_least : (v : ℤ) → ((i : ℕ) → i < length ls → Under c v (get_or ls i no_line)) → (v ≡ pos 1000000) ⊎ ((i : ℕ) × (i < length ls) × Met c v (get_or ls i no_line)) → Ring ls c v
  ring_least v u (inr m) = ring_met v u m
  ring_least v u (inl e) = ring_met v u (s.0, s.1, met (owes_cases (get_or c k 0) (get_or c 0 0) l s.2))
    where
      k : ℕ
      k = length c - 1

      s : DebtStep ls (get_or c k 0) (get_or c 0 0)
      s = r.closing

      l : Line
      l = get_or ls s.0 no_line

      f : Bounds l
      f = at_order s.0 s.1

      top : v ≡ pos 1000000
      top = e

      here : on (get_or c k 0) (get_or c 0 0) (steps c) ≡ true
      here = closing_on c k (omega (arith, r.three))

      met : ((get_or c k 0 ≡ l.b) × (get_or c 0 0 ≡ l.a) × (pos 0 <ℤ l.debt)) ⊎ ((get_or c k 0 ≡ l.a) × (get_or c 0 0 ≡ l.b) × (l.debt <ℤ pos 0)) → Met c v l
      met (inl q) = let e = sym (ap₂ (λ (x y : ℕ). on x y (steps c)) q.0 q.1) ∙ here in inl (e, omega (arith, ints, top, f.most, f.no_more_a, (u s.0 s.1).0 e))
      met (inr q) = let e = sym (ap₂ (λ (x y : ℕ). on x y (steps c)) q.0 q.1) ∙ here in inr (e, omega (arith, ints, top, f.least, f.no_more_b, (u s.0 s.1).1 e))

-- ---- what holds of each step round a ring
module _ (P : ℕ → Type 0) where
  through : (here : ℕ) (ms : List ℕ) (goal : ℕ) → ((x y : ℕ) → on x y (walk here ms goal) ≡ true → P x → P y) → P here → P goal
  through here [] goal s p = s here goal (on_self here goal []) p
  through here (k ∷ ms) goal s p = through k ms goal (λ x y e. s x y (or_right (eqb here x && eqb k y) (on x y (walk k ms goal)) e)) (s here k (on_self here k (walk k ms goal)) p)

  to_goal : (x y here : ℕ) (ms : List ℕ) (goal : ℕ) → ((x y : ℕ) → on x y (walk here ms goal) ≡ true → P x → P y) → on x y (walk here ms goal) ≡ true → P y → P goal
  to_goal x y here [] goal s e p = go (or_cases (eqb here x && eqb goal y) false e)
    where
      go : ((eqb here x && eqb goal y) ≡ true) ⊎ (false ≡ true) → P goal
      go (inl h) = subst P (sym (eqb-true goal y (and_parts (eqb here x) (eqb goal y) h).1)) p
      go (inr h) = let z : ◌≡◌ {A = ℕ} 0 1 = cc in no z
  to_goal x y here (k ∷ ms) goal s e p = go (or_cases (eqb here x && eqb k y) (on x y (walk k ms goal)) e) (to_goal x y k ms goal rest)
    where
      rest : (x y : ℕ) → on x y (walk k ms goal) ≡ true → P x → P y
      rest x y f = s x y (or_right (eqb here x && eqb k y) (on x y (walk k ms goal)) f)

      go : ((eqb here x && eqb k y) ≡ true) ⊎ (on x y (walk k ms goal) ≡ true) → (on x y (walk k ms goal) ≡ true → P y → P goal) → P goal
      go (inl h) ih = through k ms goal rest (subst P (sym (eqb-true k y (and_parts (eqb here x) (eqb k y) h).1)) p)
      go (inr h) ih = ih h p

  from_start : (x y here : ℕ) (ms : List ℕ) (goal : ℕ) → ((x y : ℕ) → on x y (walk here ms goal) ≡ true → P x → P y) → P here → on x y (walk here ms goal) ≡ true → P x
  from_start x y here [] goal s p e = go (or_cases (eqb here x && eqb goal y) false e)
    where
      go : ((eqb here x && eqb goal y) ≡ true) ⊎ (false ≡ true) → P x
      go (inl h) = subst P (eqb-true here x (and_parts (eqb here x) (eqb goal y) h).0) p
      go (inr h) = let z : ◌≡◌ {A = ℕ} 0 1 = cc in no z
  from_start x y here (k ∷ ms) goal s p e = go (or_cases (eqb here x && eqb k y) (on x y (walk k ms goal)) e) (from_start x y k ms goal rest (s here k (on_self here k (walk k ms goal)) p))
    where
      rest : (x y : ℕ) → on x y (walk k ms goal) ≡ true → P x → P y
      rest x y f = s x y (or_right (eqb here x && eqb k y) (on x y (walk k ms goal)) f)

      go : ((eqb here x && eqb k y) ≡ true) ⊎ (on x y (walk k ms goal) ≡ true) → (on x y (walk k ms goal) ≡ true → P x) → P x
      go (inl h) ih = subst P (eqb-true here x (and_parts (eqb here x) (eqb k y) h).0) p
      go (inr h) ih = ih h

  -- what passes along every step of a ring goes round from the end of one step to its start
  around : (ms : List ℕ) (x y : ℕ) → ((x y : ℕ) → on x y (steps ms) ≡ true → P x → P y) → on x y (steps ms) ≡ true → P y → P x
  around [] x y s e p = let z : ◌≡◌ {A = ℕ} 0 1 = cc in no z
  around (m ∷ ms) x y s e p = from_start x y m ms m s (to_goal x y m ms m s e p) e

-- ---- lines that no ring leads over
-- a group that holds the creditor, lacks the debtor and is closed under debts
pub clear_separated : (ls : List Line) (i x y g : ℕ) → every bounded ls ≡ true → pos 0 <ℤ line_owes x y (get_or ls i no_line)
    → inside g y ≡ true → (inside g x ≡ true → ⊥) → ((m n : ℕ) → m < 64 → n < 64 → inside g m ≡ true → DebtStep ls m n → inside g n ≡ true) → Clear ls i
clear_separated ls i x y g b o hy hx cl u v q ms r e =
    hx (subst (λ (n : ℕ). inside g n ≡ true) same.0 (around (λ n. inside g n ≡ true) ms u v (λ s t f h. let d = r s t f in let w = step_members s t ls b d in cl s t w.0 w.1 h d) e (subst (λ (n : ℕ). inside g n ≡ true) (sym same.1) hy)))
  where
    same : (u ≡ x) × (v ≡ y)
    same = owes_one x y u v (get_or ls i no_line) o q

pub clear_zero : (ls : List Line) (i : ℕ) → (get_or ls i no_line).debt ≡ pos 0 → Clear ls i
clear_zero ls i z x y o ms r e = owes_nobody x y (get_or ls i no_line) z o

-- who owes on a line whose debt shrank owed there before
owed_before : (x y : ℕ) (l : Line) (d : ℤ) → Shrinks l.debt d → pos 0 <ℤ line_owes x y (with_debt l d) → pos 0 <ℤ line_owes x y l
owed_before x y l d s o = go (eqb x l.b && eqb y l.a) (eqb x l.a && eqb y l.b) s o
  where
    go : (p q : Bool) → Shrinks l.debt d → pos 0 <ℤ (only p d -ℤ only q d) → pos 0 <ℤ (only p l.debt -ℤ only q l.debt)
    go true true s o = absurd (omega (arith, ints, o))
    go true false (inl h) o = omega (arith, ints, h, o)
    go true false (inr h) o = absurd (omega (arith, ints, h, o))
    go false true (inl h) o = absurd (omega (arith, ints, h, o))
    go false true (inr h) o = omega (arith, ints, h, o)
    go false false s o = absurd (omega (arith, ints, o))

eased_line : (x y : ℕ) (ls ks : List Line) (i : ℕ) → Eases ls ks → i < length ls → pos 0 <ℤ line_owes x y (get_or ks i no_line) → pos 0 <ℤ line_owes x y (get_or ls i no_line)
eased_line x y ls ks i e h o = owed_before x y (get_or ls i no_line) (get_or ks i no_line).debt (e.less i h) (subst (λ (k : Line). pos 0 <ℤ line_owes x y k) (e.same i h) o)

pub clear_eased : (ls ks : List Line) (i : ℕ) → Eases ls ks → i < length ls → Clear ls i → Clear ks i
clear_eased ls ks i e h c x y o ms r f =
    c x y (eased_line x y ls ks i e h o) ms (λ u v g. let s = r u v g in let w : s.0 < length ls = omega (arith, s.1, e.long) in (s.0, w, eased_line u v ls ks s.0 e w s.2)) f

-- ---- rings one after another
pub reached_none : (ls : List Line) → Reached ls ls
reached_none ls = ([], refl)

cancels_then : (rs qs : List (List ℕ × ℤ)) (ls ks js : List Line) → Cancels rs ls ks → Cancels qs ks js → Cancels (rs ++ qs) ls js
cancels_then [] qs ls ks js p q = subst (λ (k : List Line). Cancels qs k js) p q
cancels_then (r ∷ rs) qs ls ks js p q = (p.0, cancels_then rs qs (cancel (steps r.0) r.1 ls) ks js p.1 q)

pub reached_then : (ls ks js : List Line) → Reached ls ks → Reached ks js → Reached ls js
reached_then ls ks js p q = (p.0 ++ q.0, cancels_then p.0 q.0 ls ks js p.1 q.1)

pub reached_one : (ls ks : List Line) (ms : List ℕ) (v : ℤ) → Ring ls ms v → ks ≡ cancel (steps ms) v ls → Reached ls ks
reached_one ls ks ms v r e = ((ms, v) ∷ [], (r, e))

pub reached_keeps : (ls ks : List Line) → distinct ls ≡ true → every bounded ls ≡ true → Reached ls ks → Keeps ls ks
reached_keeps ls ks d b r = cancels_keep r.0 ls ks d b r.1

-- where every line is clear no ring is left
first_step : (ms : List ℕ) → 3 ≤ length ms → (x : ℕ) × (y : ℕ) × (on x y (steps ms) ≡ true)
first_step [] h = absurd (omega arith)
first_step (m ∷ []) h = absurd (omega arith)
first_step (m ∷ (k ∷ ms)) h = (m, k, on_self m k (walk k ms m))

pub tidied_clear : (ls ks : List Line) → Reached ls ks → ((i : ℕ) → i < length ks → Clear ks i) → Tidied ls ks
tidied_clear ls ks r c = record { rings = r.0; cancels = r.1; clear = left }
  where
    owed : (ms : List ℕ) (v : ℤ) → Ring ks ms v → Ringed ks ms
    owed ms v q x y e = step_from_owes x y ks (omega (arith, ints, q.some, q.owing x y e))

    left : (ms : List ℕ) (v : ℤ) → Ring ks ms v → ⊥
    left ms v q =
        let f = first_step ms q.three in
        let s = owed ms v q f.0 f.1 f.2 in
        c s.0 s.1 f.0 f.1 s.2 ms (owed ms v q) f.2

-- ---- the debt of a line on the ring comes nearer to 0
nearer : (d e : ℤ) → Shrinks d e → e ≢ d → nat_abs e < nat_abs d
nearer (pos m) (pos n) (inl h) k = let g : (n ≡ m) → ⊥ = λ z. k (ap pos z) in omega (arith, ints, h, g)
nearer (pos m) (pos n) (inr h) k = let g : (n ≡ m) → ⊥ = λ z. k (ap pos z) in omega (arith, ints, h, g)
nearer (pos m) (negsuc n) (inl h) k = absurd (omega (arith, ints, h))
nearer (pos m) (negsuc n) (inr h) k = absurd (omega (arith, ints, h))
nearer (negsuc m) (pos n) (inl h) k = absurd (omega (arith, ints, h))
nearer (negsuc m) (pos n) (inr h) k = omega (arith, ints, h)
nearer (negsuc m) (negsuc n) (inl h) k = absurd (omega (arith, ints, h))
nearer (negsuc m) (negsuc n) (inr h) k = let g : (n ≡ m) → ⊥ = λ z. k (ap negsuc z) in omega (arith, ints, h, g)

pub ring_nearer : (ls : List Line) (ms : List ℕ) (v : ℤ) (i x y : ℕ) → Ring ls ms v → distinct ls ≡ true → every bounded ls ≡ true → i < length ls → pos 0 <ℤ line_owes x y (get_or ls i no_line) → on x y (steps ms) ≡ true
    → nat_abs (get_or (cancel (steps ms) v ls) i no_line).debt < nat_abs (get_or ls i no_line).debt
ring_nearer ls ms v i x y r d b h o e =
    let f = ring_falls ls ms v r d b i h in
    nearer l.debt (get_or (cancel (steps ms) v ls) i no_line).debt f.shrinks (f.less (go (owes_cases x y l o)))
  where
    l : Line
    l = get_or ls i no_line

    go : ((x ≡ l.b) × (y ≡ l.a) × (pos 0 <ℤ l.debt)) ⊎ ((x ≡ l.a) × (y ≡ l.b) × (l.debt <ℤ pos 0)) → (on l.b l.a (steps ms) || on l.a l.b (steps ms)) ≡ true
    go (inl k) = or_left (on l.b l.a (steps ms)) (on l.a l.b (steps ms)) (sym (ap₂ (λ (s t : ℕ). on s t (steps ms)) k.0 k.1) ∙ e)
    go (inr k) = or_right (on l.b l.a (steps ms)) (on l.a l.b (steps ms)) (sym (ap₂ (λ (s t : ℕ). on s t (steps ms)) k.0 k.1) ∙ e)

-- ---- a chain from the creditor of a line back to its debtor closes to a ring
pub rounds_from : (ls : List Line) (i x y : ℕ) (c : List ℕ) → distinct ls ≡ true → every bounded ls ≡ true → i < length ls → pos 0 <ℤ line_owes x y (get_or ls i no_line)
    → Apart c → 0 < length c → get_or c 0 0 ≡ y → get_or c (length c - 1) 0 ≡ x → ((j : ℕ) → j + 1 < length c → DebtStep ls (get_or c j 0) (get_or c (j + 1) 0)) → Rounds ls c
rounds_from ls i x y c d b h o a some first last linked = record {
  three = long (cases_eq k 0) (cases_eq k 1);
  different = a;
  linked = linked;
  closing = subst₂ (λ (s t : ℕ). DebtStep ls s t) (sym last) (sym first) (i, h, o);
}
  where
    k : ℕ
    k = length c - 1

    l : Line
    l = get_or ls i no_line

    f : Bounds l
    f = bounded_facts l (every_at bounded ls i no_line b h)

    -- the two do not owe each other both ways, and differ
    one_way : ((x ≡ l.b) × (y ≡ l.a) × (pos 0 <ℤ l.debt)) ⊎ ((x ≡ l.a) × (y ≡ l.b) × (l.debt <ℤ pos 0)) → owes y x ls ≤ℤ pos 0
    one_way (inl p) = omega (arith, ints, (owed_at ls i d b h).1, p.2, ap₂ (λ (s t : ℕ). owes s t ls) p.1 p.0)
    one_way (inr p) = omega (arith, ints, (owed_at ls i d b h).0, p.2, ap₂ (λ (s t : ℕ). owes s t ls) p.1 p.0)

    differ : ((x ≡ l.b) × (y ≡ l.a) × (pos 0 <ℤ l.debt)) ⊎ ((x ≡ l.a) × (y ≡ l.b) × (l.debt <ℤ pos 0)) → x ≢ y
    differ (inl p) e = omega (arith, f.order, p.0, p.1, e)
    differ (inr p) e = omega (arith, f.order, p.0, p.1, e)

    long : (k ≡ 0) ⊎ (k ≡ 0 → ⊥) → (k ≡ 1) ⊎ (k ≡ 1 → ⊥) → 3 ≤ length c
    long (inl e) q = absurd (differ (owes_cases x y l o) (sym last ∙ ap (λ (n : ℕ). get_or c n 0) e ∙ first))
    long (inr e) (inl q) =
        let s : DebtStep ls y x = subst₂ (λ (u v : ℕ). DebtStep ls u v) first (ap (λ (n : ℕ). get_or c n 0) (sym q) ∙ last) (linked 0 (omega arith)) in
        absurd (omega (arith, ints, one_way (owes_cases x y l o), owes_at y x ls d b s, s.2))
    long (inr e) (inr q) = omega (arith, e, q)

-- ---- what a search from the creditor of a line to its debtor shows
over_along : (ls : List Line) (i x y : ℕ) (c : List ℕ) → distinct ls ≡ true → every bounded ls ≡ true → i < length ls → pos 0 <ℤ line_owes x y (get_or ls i no_line)
    → IsShortest (DebtStep ls) y x c (length c - 1) → RoundOver ls i c
over_along ls i x y c d b h o s =
    let t = s.chain in
    let some : 0 < length c = omega (arith, t.long) in
    let a : Apart c = record { members = λ i g. t.members i (omega arith); apart = λ i j g l. s.apart i j (omega arith) (omega arith) } in (
      rounds_from ls i x y c d b h o a some t.first t.last (λ j g. t.linked j (omega arith)),
      subst₂ (λ (u v : ℕ). pos 0 <ℤ line_owes u v (get_or ls i no_line)) (sym t.last) (sym t.first) o,
    )

over_closed : (ls : List Line) (i x y g : ℕ) → every bounded ls ≡ true → pos 0 <ℤ line_owes x y (get_or ls i no_line) → Separates (DebtStep ls) y x g → Clear ls i
over_closed ls i x y g b o s = clear_separated ls i x y g b o s.inside s.outside s.closed

pub over_searched : (ls : List Line) (i x y : ℕ) → distinct ls ≡ true → every bounded ls ≡ true → i < length ls → pos 0 <ℤ line_owes x y (get_or ls i no_line)
    → (r : Result Chain NoChain) → Searched (DebtStep ls) y x r → MatchOption (result_ok r) (Clear ls i) (λ chain. RoundOver ls i (listed chain.members))
over_searched ls i x y d b h o (Ok chain) a = over_along ls i x y (listed chain.members) d b h o a.2
over_searched ls i x y d b h o (Err NotMembers) a = let m = step_members x y ls b (i, h, o) in absurd (a m.1 m.0)
over_searched ls i x y d b h o (Err (Closed group)) a = over_closed ls i x y group.bits b o a.2

-- one cancelling over line i
pub over_nearer : (ls ks : List Line) (i : ℕ) (c : List ℕ) (v : ℤ) → distinct ls ≡ true → every bounded ls ≡ true → i < length ls → RoundOver ls i c
    → Ring ls c v → ks ≡ cancel (steps c) v ls → nat_abs (get_or ks i no_line).debt < nat_abs (get_or ls i no_line).debt
over_nearer ls ks i c v d b h r q e =
    subst (λ (js : List Line). nat_abs (get_or js i no_line).debt < nat_abs (get_or ls i no_line).debt) (sym e)
    (ring_nearer ls c v i (get_or c (length c - 1) 0) (get_or c 0 0) q d b h r.1 (closing_on c (length c - 1) (omega (arith, r.0.three))))

-- the lines from 0 to i are cleared
pub cleared_more : (ls ks js : List Line) (i : ℕ) → distinct ls ≡ true → every bounded ls ≡ true → Reached ls ks → i < length ks → ((j : ℕ) → j < i → Clear ks j) → Reached ks js → Clear js i → (j : ℕ) → j < i + 1 → Clear js j
cleared_more ls ks js i d b r h f q g =
    let k = reached_keeps ls ks d b r in
    let m = reached_keeps ks js k.pairs k.bounds q in
    below_more (λ j. Clear js j) i (λ j l. clear_eased ks js j m.eases (omega (arith, h, l)) (f j l)) g
