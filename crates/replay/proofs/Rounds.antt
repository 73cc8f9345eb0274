-- The worked sum on a ring of debts: between three members there is one ring, and cancelling it leaves none.
use Rattle.std.proofs.Common.{◌≡◌, ℕ, Bool, true, false, not, ◌&&◌, ◌||◌, eqb, ◌⊎◌, List, [], ◌∷◌, ℤ, pos, ◌+ℤ◌, ◌-ℤ◌, neg_ℤ, ◌≤ℤ◌, ◌<ℤ◌, sym, refl, ap, ◌∙◌, subst, subst₂, inl, inr, arith}
use Rattle.std.proofs.lemmas.Int.{ints}
use Rattle.std.proofs.lemmas.Bool.{and_parts, and_from, or_cases, or_parts, or_left, or_right, eqb-true, eq-eqb, eqb-false, not-true}
use Rattle.credit.specs.declared.line.Line.{Line}
use Rattle.credit.specs.Sums.{only}
use Rattle.rings.specs.Rings.{owes, walk, steps, has, once, on, Ring, cancel, Cancels, Tidied}
use Rattle.calls.specs.declared.call.Call.TheVariants.{Tidy}
use Rattle.calls.specs.declared.call.Answer.{Answer}
use Rattle.ledger.specs.States.{State}
use Rattle.ledger.specs.Calls.{Does}
use Rattle.replay.specs.Sums.{owing, round}

-- 1 owes 2 u, 2 owes 3 v, 3 owes 1 w
abbrev three : ℤ → ℤ → ℤ → List Line
three u v w = owing 1 2 (neg_ℤ u) ∷ owing 2 3 (neg_ℤ v) ∷ owing 1 3 w ∷ []

-- who may owe whom
abbrev Edge : ℕ → ℕ → Type 0
Edge x y = ((x ≡ 1) × (y ≡ 2)) ⊎ (((x ≡ 2) × (y ≡ 3)) ⊎ ((x ≡ 3) × (y ≡ 1)))

only_above : (b : Bool) (v : ℤ) → pos 0 ≤ℤ v → pos 0 ≤ℤ only b v
only_above true v h = h
only_above false v h = omega (arith, ints)

only_below : (b : Bool) (v : ℤ) → pos 0 ≤ℤ v → only b (neg_ℤ v) ≤ℤ pos 0
only_below true v h = omega (arith, ints)
only_below false v h = omega (arith, ints)

edge : (u v w : ℤ) → pos 0 ≤ℤ u → pos 0 ≤ℤ v → pos 0 ≤ℤ w → (x y : ℕ) → pos 0 <ℤ owes x y (three u v w) → Edge x y
edge u v w hu hv hw x y h = go (eqb x 1 && eqb y 2) (eqb x 2 && eqb y 3) (eqb x 3 && eqb y 1) refl refl refl h
  where
    go : (a b c : Bool) → (eqb x 1 && eqb y 2) ≡ a → (eqb x 2 && eqb y 3) ≡ b → (eqb x 3 && eqb y 1) ≡ c →
        pos 0 <ℤ ((only (eqb x 2 && eqb y 1) (neg_ℤ u) -ℤ only a (neg_ℤ u)) +ℤ ((only (eqb x 3 && eqb y 2) (neg_ℤ v) -ℤ only b (neg_ℤ v)) +ℤ ((only c w -ℤ only (eqb x 1 && eqb y 3) w) +ℤ pos 0))) → Edge x y
    go true b c e f g h = let k = and_parts (eqb x 1) (eqb y 2) e in inl (eqb-true x 1 k.0, eqb-true y 2 k.1)
    go false true c e f g h = let k = and_parts (eqb x 2) (eqb y 3) f in inr (inl (eqb-true x 2 k.0, eqb-true y 3 k.1))
    go false false true e f g h = let k = and_parts (eqb x 3) (eqb y 1) g in inr (inr (eqb-true x 3 k.0, eqb-true y 1 k.1))
    go false false false e f g h = absurd (omega (arith, ints, h, only_below (eqb x 2 && eqb y 1) u hu, only_below (eqb x 3 && eqb y 2) v hv, only_above (eqb x 1 && eqb y 3) w hw))

-- two steps go on round
abbrev Round : ℕ → ℕ → ℕ → Type 0
Round a b c = ((a ≡ 1) × (b ≡ 2) × (c ≡ 3)) ⊎ (((a ≡ 2) × (b ≡ 3) × (c ≡ 1)) ⊎ ((a ≡ 3) × (b ≡ 1) × (c ≡ 2)))

two_steps : (a b c : ℕ) → Edge a b → Edge b c → Round a b c
two_steps a b c (inl e) (inl f) = absurd (omega arith)
two_steps a b c (inl e) (inr (inl f)) = inl (e.0, e.1, f.1)
two_steps a b c (inl e) (inr (inr f)) = absurd (omega arith)
two_steps a b c (inr (inl e)) (inl f) = absurd (omega arith)
two_steps a b c (inr (inl e)) (inr (inl f)) = absurd (omega arith)
two_steps a b c (inr (inl e)) (inr (inr f)) = inr (inl (e.0, e.1, f.1))
two_steps a b c (inr (inr e)) (inl f) = inr (inr (e.0, e.1, f.1))
two_steps a b c (inr (inr e)) (inr (inl f)) = absurd (omega arith)
two_steps a b c (inr (inr e)) (inr (inr f)) = absurd (omega arith)

-- the third step comes back
third_step : (a b c d : ℕ) → Round a b c → Edge c d → d ≡ a
third_step a b c d (inl e) (inl f) = absurd (omega arith)
third_step a b c d (inl e) (inr (inl f)) = absurd (omega arith)
third_step a b c d (inl e) (inr (inr f)) = omega arith
third_step a b c d (inr (inl e)) (inl f) = omega arith
third_step a b c d (inr (inl e)) (inr (inl f)) = absurd (omega arith)
third_step a b c d (inr (inl e)) (inr (inr f)) = absurd (omega arith)
third_step a b c d (inr (inr e)) (inl f) = absurd (omega arith)
third_step a b c d (inr (inr e)) (inr (inl f)) = omega arith
third_step a b c d (inr (inr e)) (inr (inr f)) = absurd (omega arith)

step_here : (x y : ℕ) (ss : List (ℕ × ℕ)) → on x y ((x, y) ∷ ss) ≡ true
step_here x y ss = or_left (eqb x x && eqb y y) (on x y ss) (and_from (eqb x x) (eqb y y) (eq-eqb x x refl) (eq-eqb y y refl))

step_later : (x y : ℕ) (s : ℕ × ℕ) (ss : List (ℕ × ℕ)) → on x y ss ≡ true → on x y (s ∷ ss) ≡ true
step_later x y s ss h = or_right (eqb s.0 x && eqb s.1 y) (on x y ss) h

-- a ring of these debts goes round all three, from any of them
record Rounded (u v w : ℤ) (ms : List ℕ) : Type 0 where
  a : ℕ
  b : ℕ
  c : ℕ
  is : ms ≡ a ∷ b ∷ c ∷ []
  way : Round a b c

rounded : (u v w : ℤ) → pos 0 ≤ℤ u → pos 0 ≤ℤ v → pos 0 ≤ℤ w → (ms : List ℕ) (c : ℤ) → Ring (three u v w) ms c → Rounded u v w ms
rounded u v w hu hv hw [] c r = absurd (omega (arith, r.three))
rounded u v w hu hv hw (x ∷ []) c r = absurd (omega (arith, r.three))
rounded u v w hu hv hw (x ∷ (y ∷ [])) c r = absurd (omega (arith, r.three))
rounded u v w hu hv hw (x ∷ (y ∷ (z ∷ rest))) c r = go rest r
  where
    owed : (ms : List ℕ) (c : ℤ) → Ring (three u v w) ms c → (i j : ℕ) → on i j (steps ms) ≡ true → Edge i j
    owed ms c r i j h = edge u v w hu hv hw i j (omega (arith, ints, r.some, r.owing i j h))

    go : (rest : List ℕ) → Ring (three u v w) (x ∷ (y ∷ (z ∷ rest))) c → Rounded u v w (x ∷ (y ∷ (z ∷ rest)))
    go [] r =
        let e = owed (x ∷ (y ∷ (z ∷ []))) c r x y (step_here x y (walk y (z ∷ []) x)) in
        let f = owed (x ∷ (y ∷ (z ∷ []))) c r y z (step_later y z (x, y) (walk y (z ∷ []) x) (step_here y z (walk z [] x))) in
        record { a = x; b = y; c = z; is = refl; way = two_steps x y z e f }
    go (k ∷ rest) r =
        let e = owed (x ∷ (y ∷ (z ∷ (k ∷ rest)))) c r x y (step_here x y (walk y (z ∷ (k ∷ rest)) x)) in
        let f = owed (x ∷ (y ∷ (z ∷ (k ∷ rest)))) c r y z (step_later y z (x, y) (walk y (z ∷ (k ∷ rest)) x) (step_here y z (walk z (k ∷ rest) x))) in
        let g = owed (x ∷ (y ∷ (z ∷ (k ∷ rest)))) c r z k (step_later z k (x, y) (walk y (z ∷ (k ∷ rest)) x) (step_later z k (y, z) (walk z (k ∷ rest) x) (step_here z k (walk k rest x)))) in
        let back : k ≡ x = third_step x y z k (two_steps x y z e f) g in
        let apart = (and_parts (not (has x (y ∷ (z ∷ (k ∷ rest))))) (once (y ∷ (z ∷ (k ∷ rest)))) r.apart).0 in
        let one = or_parts (eqb x y) (has x (z ∷ (k ∷ rest))) (not-true (has x (y ∷ (z ∷ (k ∷ rest)))) apart) in
        let two = or_parts (eqb x z) (has x (k ∷ rest)) one.1 in
        let last = or_parts (eqb x k) (has x rest) two.1 in
        absurd (eqb-false x k last.0 (sym back))

-- 2 owes 3 on every ring
through : (i j k : ℕ) → Round i j k → on 2 3 (steps (i ∷ j ∷ k ∷ [])) ≡ true
through i j k (inl e) = subst₂ (λ (x y : ℕ). on 2 3 (steps (i ∷ x ∷ y ∷ [])) ≡ true) (sym e.1) (sym e.2) (step_later 2 3 (i, 2) ((2, 3) ∷ (3, i) ∷ []) refl)
through i j k (inr (inl e)) = subst₂ (λ (x y : ℕ). on 2 3 (steps (x ∷ y ∷ k ∷ [])) ≡ true) (sym e.0) (sym e.1) refl
through i j k (inr (inr e)) = subst₂ (λ (x y : ℕ). on 2 3 (steps (x ∷ j ∷ y ∷ [])) ≡ true) (sym e.0) (sym e.2) (step_later 2 3 (3, j) ((j, 2) ∷ (2, 3) ∷ []) (step_later 2 3 (j, 2) ((2, 3) ∷ []) refl))

abbrev before : List Line
before = three (pos 7) (pos 5) (pos 9)

abbrev after : List Line
after = three (pos 2) (pos 0) (pos 4)

-- no ring is left
no_ring : (ms : List ℕ) (c : ℤ) → Ring after ms c → ⊥
no_ring ms c r =
    let k = rounded (pos 2) (pos 0) (pos 4) (omega (arith, ints)) (omega (arith, ints)) (omega (arith, ints)) ms c r in
    let h : c ≤ℤ owes 2 3 after = r.owing 2 3 (subst (λ (v : List ℕ). on 2 3 (steps v) ≡ true) (sym k.is) (through k.a k.b k.c k.way)) in
    omega (arith, ints, h, r.some)

-- the least debt on the ring is 5
least_is : (ms : List ℕ) (c : ℤ) → Ring before ms c → c ≡ pos 5
least_is ms c r =
    let k = rounded (pos 7) (pos 5) (pos 9) (omega (arith, ints)) (omega (arith, ints)) (omega (arith, ints)) ms c r in
    let h : c ≤ℤ owes 2 3 before = r.owing 2 3 (subst (λ (v : List ℕ). on 2 3 (steps v) ≡ true) (sym k.is) (through k.a k.b k.c k.way)) in
    by r.least.0 r.least.1 r.least.3 h (edge (pos 7) (pos 5) (pos 9) (omega (arith, ints)) (omega (arith, ints)) (omega (arith, ints)) r.least.0 r.least.1 (omega (arith, ints, r.some, r.least.3)))
  where
    by : (x y : ℕ) → owes x y before ≡ c → c ≤ℤ pos 5 → Edge x y → c ≡ pos 5
    by x y e h (inl f) = let k : owes 1 2 before ≡ c = subst₂ (λ (i j : ℕ). owes i j before ≡ c) f.0 f.1 e in absurd (omega (arith, ints, k, h))
    by x y e h (inr (inl f)) = sym (subst₂ (λ (i j : ℕ). owes i j before ≡ c) f.0 f.1 e)
    by x y e h (inr (inr f)) = let k : owes 3 1 before ≡ c = subst₂ (λ (i j : ℕ). owes i j before ≡ c) f.0 f.1 e in absurd (omega (arith, ints, k, h))

cancelled : (a b c : ℕ) → Round a b c → cancel (steps (a ∷ b ∷ c ∷ [])) (pos 5) before ≡ after
cancelled a b c (inl e) = ap (λ (x : ℕ). cancel (steps (x ∷ b ∷ c ∷ [])) (pos 5) before) e.0 ∙ ap (λ (x : ℕ). cancel (steps (1 ∷ x ∷ c ∷ [])) (pos 5) before) e.1 ∙ ap (λ (x : ℕ). cancel (steps (1 ∷ 2 ∷ x ∷ [])) (pos 5) before) e.2
cancelled a b c (inr (inl e)) = ap (λ (x : ℕ). cancel (steps (x ∷ b ∷ c ∷ [])) (pos 5) before) e.0 ∙ ap (λ (x : ℕ). cancel (steps (2 ∷ x ∷ c ∷ [])) (pos 5) before) e.1 ∙ ap (λ (x : ℕ). cancel (steps (2 ∷ 3 ∷ x ∷ [])) (pos 5) before) e.2
cancelled a b c (inr (inr e)) = ap (λ (x : ℕ). cancel (steps (x ∷ b ∷ c ∷ [])) (pos 5) before) e.0 ∙ ap (λ (x : ℕ). cancel (steps (3 ∷ x ∷ c ∷ [])) (pos 5) before) e.1 ∙ ap (λ (x : ℕ). cancel (steps (3 ∷ 1 ∷ x ∷ [])) (pos 5) before) e.2

one_ring : Ring before (1 ∷ 2 ∷ 3 ∷ []) (pos 5)
one_ring = record { three = omega arith; apart = refl; owing = each; least = (2, 3, refl, refl); some = omega (arith, ints) }
  where
    at : (x y i j : ℕ) → (eqb i x && eqb j y) ≡ true → pos 5 ≤ℤ owes i j before → pos 5 ≤ℤ owes x y before
    at x y i j e h = let k = and_parts (eqb i x) (eqb j y) e in subst₂ (λ (v w : ℕ). pos 5 ≤ℤ owes v w before) (eqb-true i x k.0) (eqb-true j y k.1) h

    last : (x y : ℕ) → ((eqb 3 x && eqb 1 y) ≡ true) ⊎ (false ≡ true) → pos 5 ≤ℤ owes x y before
    last x y (inl e) = at x y 3 1 e (omega (arith, ints))
    last x y (inr e) = cc

    then : (x y : ℕ) → ((eqb 2 x && eqb 3 y) ≡ true) ⊎ (((eqb 3 x && eqb 1 y) || false) ≡ true) → pos 5 ≤ℤ owes x y before
    then x y (inl e) = at x y 2 3 e (omega (arith, ints))
    then x y (inr e) = last x y (or_cases (eqb 3 x && eqb 1 y) false e)

    first : (x y : ℕ) → ((eqb 1 x && eqb 2 y) ≡ true) ⊎ (((eqb 2 x && eqb 3 y) || ((eqb 3 x && eqb 1 y) || false)) ≡ true) → pos 5 ≤ℤ owes x y before
    first x y (inl e) = at x y 1 2 e (omega (arith, ints))
    first x y (inr e) = then x y (or_cases (eqb 2 x && eqb 3 y) ((eqb 3 x && eqb 1 y) || false) e)

    each : (x y : ℕ) → on x y (steps (1 ∷ 2 ∷ 3 ∷ [])) ≡ true → pos 5 ≤ℤ owes x y before
    each x y h = first x y (or_cases (eqb 1 x && eqb 2 y) ((eqb 2 x && eqb 3 y) || ((eqb 3 x && eqb 1 y) || false)) h)

-- whatever rings are cancelled, in whatever order, these debts are left
left : (ls : List Line) → Tidied before ls → ls ≡ after
left ls t = go t.rings t.cancels t.clear
  where
    done : (rs : List (List ℕ × ℤ)) → Cancels rs after ls → ls ≡ after
    done [] e = e
    done (r ∷ rs) e = absurd (no_ring r.0 r.1 e.0)

    go : (rs : List (List ℕ × ℤ)) → Cancels rs before ls → ((ms : List ℕ) (c : ℤ) → Ring ls ms c → ⊥) → ls ≡ after
    go [] e clear = absurd (clear (1 ∷ 2 ∷ 3 ∷ []) (pos 5) (subst (λ (v : List Line). Ring v (1 ∷ 2 ∷ 3 ∷ []) (pos 5)) (sym e) one_ring))
    go (r ∷ rs) e clear =
        let k = rounded (pos 7) (pos 5) (pos 9) (omega (arith, ints)) (omega (arith, ints)) (omega (arith, ints)) r.0 r.1 e.0 in
        let is : cancel (steps r.0) r.1 before ≡ after = subst₂ (λ (ms : List ℕ) (c : ℤ). cancel (steps ms) c before ≡ after) (sym k.is) (sym (least_is r.0 r.1 e.0)) (cancelled k.a k.b k.c k.way) in
        done rs (subst (λ (v : List Line). Cancels rs v ls) is e.1)

pub tidied : (r : Answer) (s : State) → Does round Tidy r s → (owes 1 2 s.lines ≡ pos 2) × (owes 2 3 s.lines ≡ pos 0) × (owes 3 1 s.lines ≡ pos 4)
tidied r s d =
    let e : s.lines ≡ after = ap (λ (v : State). v.lines) d.3 ∙ left d.1 d.2 in
    (ap (owes 1 2) e, ap (owes 2 3) e, ap (owes 3 1) e)
