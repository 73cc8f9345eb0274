-- Distances from the start, and what a breadth-first search knows of them after each level.
use Rattle.std.proofs.Common.{◌≡◌, ℕ, zero, suc, ◌+◌, ◌-◌, ◌^◌, ◌<◌, ◌≤◌, ◌&&◌, ◌||◌, eqb, ltb, ◌⊎◌, List, length, get_or, sym, ap, ◌∙◌, subst, inl, inr, ⊎_elim, add-one, arith}
use Rattle.std.proofs.lemmas.Bool.{cases_lt}
use Rattle.search.specs.Chains.{IsChain, IsShortest, Separates}
use Rattle.search.specs.Levels.{Members, Grown, Met, Traced}
use Rattle.members.specs.Groups.{inside, Has, members_of}
use Rattle.members.proofs.Digits.{inside_below}
use Rattle.members.proofs.Facts.{has_or_not, has_not, has_none, union_left, union_right, union_either, with_new, with_only}
use Rattle.members.proofs.Listed.{count_more, count_lacks, count_some, some_member}

-- n is reached from the start in exactly k steps
abbrev pub Walk : (S : ℕ → ℕ → Type 0) → ℕ → ℕ → ℕ → Type 0
Walk S start zero n = n ≡ start
Walk S start (suc k) n = (m : ℕ) × Walk S start k m × (n < 64) × S m n

-- k is the fewest steps from the start to n
pub record Dist (S : ℕ → ℕ → Type 0) (start n k : ℕ) : Type 0 where
  pub walk : Walk S start k n
  pub least : (j : ℕ) → j < k → Walk S start j n → ⊥

pub dist_one : (S : ℕ → ℕ → Type 0) (start n j k : ℕ) → Dist S start n j → Dist S start n k → j ≡ k
dist_one S start n j k p q = grind (arith, p.walk, p.least k, q.walk, q.least j)

-- a chain is a walk
chain_walks : (S : ℕ → ℕ → Type 0) (from to : ℕ) (c : List ℕ) (k : ℕ) → IsChain S from to c k → (i : ℕ) → i ≤ k → Walk S from i (get_or c i 0)
chain_walks S from to c k h zero l = h.first
chain_walks S from to c k h (suc i) l =
    let e : i + 1 ≡ suc i = add-one i in
    (get_or c i 0, chain_walks S from to c k h i (omega arith), h.members (suc i) l, subst (λ x. S (get_or c i 0) (get_or c x 0)) e (h.linked i (omega arith)))

pub chain_walk : (S : ℕ → ℕ → Type 0) (from to : ℕ) (c : List ℕ) (k : ℕ) → IsChain S from to c k → Walk S from k to
chain_walk S from to c k h = subst (λ x. Walk S from k x) h.last (chain_walks S from to c k h k (omega arith))

-- After `level` levels: seen are the members at a distance of at most that, and frontier those at just that.
pub record Searching (S : ℕ → ℕ → Type 0) (start goal level frontier seen : ℕ) (before : List ℕ) : Type 0 where
  pub start_in : Has seen start
  pub goal_out : Has seen goal → ⊥
  pub sub : (n : ℕ) → Has frontier n → Has seen n
  pub at_level : (n : ℕ) → Has frontier n → Dist S start n level
  pub closed : (m n : ℕ) → n < 64 → Has seen m → (Has frontier m → ⊥) → S m n → Has seen n
  pub known : (k n : ℕ) → k ≤ level → Walk S start k n → Has seen n
  pub back : (n : ℕ) → Has seen n → (n ≡ start → ⊥) →
      Has seen (get_or before n 0) × S (get_or before n 0) n × ((k : ℕ) × Dist S start (get_or before n 0) k × Dist S start n (suc k))
  pub small : Members before
  pub count : level < length (members_of seen)
  pub few : level + 1 < 64

module _ (S : ℕ → ℕ → Type 0) (start goal : ℕ) where
  pub starts : (none g : ℕ) (before : List ℕ) → start < 64 → (start ≡ goal → ⊥) → none ≡ 0 →
      ((n : ℕ) → inside g n ≡ (inside none n || (eqb n start && ltb n 64))) →
      Members before → Searching S start goal 0 g g before
  starts none g before l ne e is small =
      let h : Has g start = with_new none start g is l in
      let only : (n : ℕ) → Has g n → Has 0 n ⊎ (n ≡ start) = λ n y. subst (λ x. Has x n ⊎ (n ≡ start)) e (with_only none start g is n y) in
      let is-start : (n : ℕ) → Has g n → n ≡ start = λ n y. ⊎_elim (λ z. absurd (has_none n z)) (λ e. e) (only n y) in
      record {
        start_in = h;
        goal_out = λ y. ne (sym (is-start goal y));
        sub = λ n y. y;
        at_level = λ n y. record { walk = is-start n y; least = λ j lt _. absurd (omega arith) };
        closed = λ m n _ y no-m _. absurd (no-m y);
        known = λ k n le w. subst (λ x. Has g x) (sym (let z : k ≡ 0 = omega arith in subst (λ x. Walk S start x n) z w)) h;
        back = λ n y d. absurd (d (is-start n y));
        small = small;
        count = count_some g start l h;
        few = omega arith;
      }

  module _ (level frontier seen : ℕ) (before : List ℕ) (s : Searching S start goal level frontier seen before) where
    -- a step from what is seen leads to what is seen or to the next level
    reaches : (next : ℕ) (new : List ℕ) → Grown S frontier seen goal before new next → (m n : ℕ) → n < 64 → Has seen m → S m n → Has seen n ⊎ Has next n
    reaches next new g m n l h step =
        elim (has_or_not frontier m) [ inl y ↦ g.all m n l y step | inr no-m ↦ inl (s.closed m n l h no-m step) ]

    farther : (m n : ℕ) → n < 64 → Has frontier m → S m n → (Has seen n → ⊥) → Dist S start n (suc level)
    farther m n l h step no-n =
        record { walk = (m, (s.at_level m h).walk, l, step); least = λ j lt w. no-n (s.known j n (omega arith) w) }

    known_more : (both k n : ℕ) → k ≤ suc level → Walk S start k n → ((n : ℕ) → Has seen n → Has both n) →
        ((m n : ℕ) → n < 64 → Has seen m → S m n → Has both n) → Has both n
    known_more both zero n le w more either = more n (subst (λ x. Has seen x) (sym w) s.start_in)
    known_more both (suc k) n le w more either = either w.0 n w.2 (s.known k w.0 (omega arith) w.1) w.3

    pub grows : (next both : ℕ) (new : List ℕ) → Grown S frontier seen goal before new next → next < 2 ^ 64 → (next ≡ 0 → ⊥) →
        ((n : ℕ) → inside both n ≡ (inside seen n || inside next n)) →
        goal < 64 → Searching S start goal (level + 1) next both new
    grows next both new g ln ne is lg =
        let old : (n : ℕ) → Has seen n → Has both n = union_left seen next both is in
        let fresh : (n : ℕ) → Has next n → Has both n = union_right seen next both is in
        let parts : (n : ℕ) → Has both n → Has seen n ⊎ Has next n = union_either seen next both is in
        let either : (m n : ℕ) → n < 64 → Has seen m → S m n → Has both n =
        λ m n l h step. ⊎_elim (old n) (fresh n) (reaches next new g m n l h step) in
        let new-at : (n : ℕ) → Has next n → Dist S start n (suc level) =
        λ n h. let f = g.from n h in farther (get_or new n 0) n (inside_below 64 next n ln h) f.0 f.1 (g.unseen n h) in
        let one = some_member next (let z : 0 < next = grind (arith, ne) in z) ln in
        let goal-out : Has both goal → ⊥ = λ h. ⊎_elim s.goal_out g.lacks (parts goal h) in
        let more = count_more seen both old one.0 (has_not seen one.0 (g.unseen one.0 one.2)) (fresh one.0 one.2) one.1 in
        record {
          start_in = old start s.start_in;
          goal_out = goal-out;
          sub = fresh;
          at_level = λ n h. subst (λ x. Dist S start n x) (sym (add-one level)) (new-at n h);
          closed = λ m n l h no-m step. ⊎_elim (λ y. either m n l y step) (λ y. absurd (no-m y)) (parts m h);
          known = λ k n le w. known_more both k n (omega (arith, add-one level)) w old either;
          back = λ n h d.
              elim (has_or_not next n) [
                | inl y ↦
                    let f = g.from n y in
                    (old (get_or new n 0) (s.sub (get_or new n 0) f.0), f.1, (level, s.at_level (get_or new n 0) f.0, new-at n y))
                | inr no-n ↦
                    let y = ⊎_elim (λ z. z) (λ z. absurd (no-n z)) (parts n h) in
                    let b = s.back n y d in
                    subst (λ x. Has both x × S x n × ((k : ℕ) × Dist S start x k × Dist S start n (suc k))) (sym (g.same n no-n))
                    (old (get_or before n 0) b.0, b.1, b.2)
              ];
          small = g.small;
          count = omega (arith, s.count, more);
          few = omega (arith, s.count, more, count_lacks both goal lg (has_not both goal goal-out));
        }

    -- no next level: what is seen is closed
    pub closes : (next : ℕ) (new : List ℕ) → Grown S frontier seen goal before new next → next ≡ 0 → Separates S start goal seen
    closes next new g e =
        record {
          inside = s.start_in;
          outside = s.goal_out;
          closed = λ m n _ l h step. ⊎_elim (λ y. y) (λ y. absurd (has_none n (subst (λ x. Has x n) e y))) (reaches next new g m n l h step);
        }

    -- the goal is met: the chain that leads back from it is a shortest one
    module _ (new : List ℕ) (met : Met S frontier seen goal before new) (lg : goal < 64) (c : List ℕ) (t : Traced new goal (level + 1) c) where
      At : ℕ → Type 0
      At i = Has seen (get_or c i 0) × Dist S start (get_or c i 0) i

      -- where the chain comes from at suc i, if suc i is not past the last level
      record Back (i : ℕ) : Type 0 where
        below : At i
        link : S (get_or c i 0) (get_or c (suc i) 0)

      before_of : (i : ℕ) → i < level + 1 → get_or c i 0 ≡ get_or new (get_or c (suc i) 0) 0
      before_of i l = subst (λ x. get_or c i 0 ≡ get_or new (get_or c x 0) 0) (add-one i) (t.back i l)

      top : Back level
      unfolding At
      top =
          let e : get_or c level 0 ≡ get_or new goal 0 =
          before_of level (omega arith) ∙ ap (λ x. get_or new (get_or c x 0) 0) (sym (add-one level)) ∙ ap (λ x. get_or new x 0) t.last in
          let l : get_or c (suc level) 0 ≡ goal = subst (λ x. get_or c x 0 ≡ goal) (add-one level) t.last in
          let f = subst (λ x. Has frontier x × S x goal) (sym e) met.from in
          record {
            below = (s.sub (get_or c level 0) f.0, s.at_level (get_or c level 0) f.0);
            link = subst (λ x. S (get_or c level 0) x) (sym l) f.1;
          }

      down : (i : ℕ) → suc i ≤ level → At (suc i) → Back i
      unfolding At
      down i le a =
          let n = get_or c (suc i) 0 in
          let b = s.back n a.0 (λ e. a.1.least 0 (omega arith) e) in
          let e : get_or c i 0 ≡ get_or before n 0 = before_of i (omega arith) ∙ met.same n a.0 in
          let k = b.2.0 in
          let d : k ≡ i = omega (arith, dist_one S start n (suc k) (suc i) b.2.2 a.1) in
          record {
            below = (subst (λ x. Has seen x) (sym e) b.0, subst (λ x. Dist S start x i) (sym e) (subst (λ x. Dist S start (get_or before n 0) x) d b.2.1));
            link = subst (λ x. S x n) (sym e) b.1;
          }

      descends : (d i : ℕ) → i + d ≡ level → Back i
      descends zero i e = let q : level ≡ i = omega arith in subst (λ x. Back x) q top
      descends (suc d) i e = let q : suc i + d ≡ level = omega arith in down i (omega arith) (descends d (suc i) q).below

      backs : (i : ℕ) → i ≤ level → Back i
      backs i le = descends (level - i) i (omega arith)

      goal_at : Dist S start goal (suc level)
      goal_at = let f = met.from in farther (get_or new goal 0) goal lg f.0 f.1 s.goal_out

      dists : (i : ℕ) → i ≤ level + 1 → Dist S start (get_or c i 0) i
      unfolding At
      dists i le =
          elim (cases_lt level i) [
            | inr l ↦ (backs i l).below.1
            | inl l ↦
                let q : suc level ≡ i = omega (arith, add-one level) in
                let z : level + 1 ≡ i = omega arith in
                subst (λ x. Dist S start x i) (sym (ap (λ x. get_or c x 0) (sym z) ∙ t.last)) (subst (λ x. Dist S start goal x) q goal_at)
          ]

      pub arrives : IsShortest S start goal c (level + 1)
      arrives =
          record {
            chain = record {
              long = omega (arith, t.long);
              first = (dists 0 (omega arith)).walk;
              last = t.last;
              members = t.members;
              linked = λ i l. subst (λ x. S (get_or c i 0) (get_or c x 0)) (sym (add-one i)) (backs i (omega arith)).link;
            };
            apart = λ i j li lj e. dist_one S start (get_or c i 0) i j (dists i li) (subst (λ x. Dist S start x j) (sym e) (dists j lj));
            least = λ other j h.
                elim (cases_lt j (level + 1)) [
                  | inr l ↦ l
                  | inl l ↦ absurd (goal_at.least j (omega (arith, add-one level)) (chain_walk S start goal other j h))
                ];
          }
