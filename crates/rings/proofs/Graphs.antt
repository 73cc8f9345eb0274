-- The graph of debts while its rows are filled.
use Rattle.std.proofs.Common.{◌≡◌, ℕ, ◌+◌, ◌<◌, Bool, true, false, ◌&&◌, ◌||◌, eqb, ltb, ◌⊎◌, ⊎_elim, List, get_or, pos, ◌<ℤ◌, sym, ◌∙◌, inl, inr, arith}
use Rattle.std.proofs.lemmas.Bool.{both_ways, cases_eq, or_left, or_right, or_cases, and_from, and_parts, eq-eqb, eqb-true, lt-ltb}
use Rattle.credit.specs.declared.line.Line.{Line}
use Rattle.credit.specs.Net.{no_line}
use Rattle.rings.specs.Rings.{line_owes}
use Rattle.rings.proofs.Stepping.{owes_one, owes_nobody}

-- the steps are the debts on the first i lines
pub record Gathered (f : ℕ → ℕ → Bool) (ls : List Line) (i : ℕ) : Type 0 where
  pub sound : (m n : ℕ) → f m n ≡ true → (j : ℕ) × (j < i) × (pos 0 <ℤ line_owes m n (get_or ls j no_line))
  pub complete : (m n j : ℕ) → m < 64 → n < 64 → j < i → pos 0 <ℤ line_owes m n (get_or ls j no_line) → f m n ≡ true

pub gathered_none : (f : ℕ → ℕ → Bool) (ls : List Line) → ((m n : ℕ) → f m n ≡ false) → Gathered f ls 0
gathered_none f ls e = record { sound = λ m n h. absurd (both_ways (f m n) (e m n) h); complete = λ m n j hm hn h. absurd (omega arith) }

pub gathered_more : (f g : ℕ → ℕ → Bool) (ls : List Line) (i : ℕ) → Gathered f ls i → ((m n : ℕ) → f m n ≡ true → g m n ≡ true) → ((m n : ℕ) → m < 64 → n < 64 → pos 0 <ℤ line_owes m n (get_or ls i no_line) → g m n ≡ true)
    → ((m n : ℕ) → g m n ≡ true → (f m n ≡ true) ⊎ (pos 0 <ℤ line_owes m n (get_or ls i no_line))) → Gathered g ls (i + 1)
gathered_more f g ls i h old new only = record { sound = sound; complete = complete }
  where
    sound : (m n : ℕ) → g m n ≡ true → (j : ℕ) × (j < i + 1) × (pos 0 <ℤ line_owes m n (get_or ls j no_line))
    sound m n e = by (only m n e)
      where
        by : (f m n ≡ true) ⊎ (pos 0 <ℤ line_owes m n (get_or ls i no_line)) → (j : ℕ) × (j < i + 1) × (pos 0 <ℤ line_owes m n (get_or ls j no_line))
        by (inl k) = let s = h.sound m n k in (s.0, omega (arith, s.1), s.2)
        by (inr k) = (i, omega arith, k)

    complete : (m n j : ℕ) → m < 64 → n < 64 → j < i + 1 → pos 0 <ℤ line_owes m n (get_or ls j no_line) → g m n ≡ true
    complete m n j hm hn l o = by (cases_eq j i)
      where
        by : (j ≡ i) ⊎ (j ≡ i → ⊥) → g m n ≡ true
        by (inl e) = new m n hm hn (rw e at o)
        by (inr d) = old m n (h.complete m n j hm hn (omega (arith, d, l)) o)

-- a line on which x owes y adds that step
pub gathered_debt : (f g : ℕ → ℕ → Bool) (ls : List Line) (i x y : ℕ) → Gathered f ls i → pos 0 <ℤ line_owes x y (get_or ls i no_line)
    → ((m n : ℕ) → g m n ≡ (f m n || (eqb m x && ltb m 64 && (eqb n y && ltb n 64)))) → Gathered g ls (i + 1)
gathered_debt f g ls i x y h o e = gathered_more f g ls i h old new only
  where
    old : (m n : ℕ) → f m n ≡ true → g m n ≡ true
    old m n t = e m n ∙ or_left _ _ t

    new : (m n : ℕ) → m < 64 → n < 64 → pos 0 <ℤ line_owes m n (get_or ls i no_line) → g m n ≡ true
    new m n hm hn q =
        let p = owes_one x y m n (get_or ls i no_line) o q in
        e m n ∙ or_right _ _ (and_from _ _ (and_from _ _ (eq-eqb m x p.0) (lt-ltb m 64 hm)) (and_from _ _ (eq-eqb n y p.1) (lt-ltb n 64 hn)))

    only : (m n : ℕ) → g m n ≡ true → (f m n ≡ true) ⊎ (pos 0 <ℤ line_owes m n (get_or ls i no_line))
    only m n t = ⊎_elim inl (λ k. let p = and_parts _ _ k in inr (owed m n (eqb-true m x (and_parts _ _ p.0).0) (eqb-true n y (and_parts _ _ p.1).0))) (or_cases _ _ (sym (e m n) ∙ t))
      where
        owed : (m n : ℕ) → m ≡ x → n ≡ y → pos 0 <ℤ line_owes m n (get_or ls i no_line)
        owed m n p q = rw (p, q) o

-- a line without debt adds none
pub gathered_idle : (f : ℕ → ℕ → Bool) (ls : List Line) (i : ℕ) → Gathered f ls i → (get_or ls i no_line).debt ≡ pos 0 → Gathered f ls (i + 1)
gathered_idle f ls i h z = gathered_more f f ls i h (λ m n t. t) (λ m n _ _ q. absurd (owes_nobody m n (get_or ls i no_line) z q)) (λ m n t. inl t)
