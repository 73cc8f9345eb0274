-- The count down to the least debt of a ring, and the lines while their debts are lowered.
use Rattle.std.proofs.Common.{◌≡◌, ℕ, ◌+◌, ◌<◌, ◌≤◌, Bool, true, false, ◌⊎◌, List, length, get_or, set, ℤ, pos, ◌+ℤ◌, ◌-ℤ◌, ◌≤ℤ◌, sym, refl, ap, ◌∙◌, subst, inl, inr, arith, below_more}
use Rattle.std.proofs.lemmas.Int.{ints}
use Rattle.std.proofs.lemmas.List.{length-set, get_or-set_same, get_or-set_other, ext_get_or}
use Rattle.credit.specs.declared.line.Line.{Line}
use Rattle.credit.specs.Sums.{only}
use Rattle.credit.specs.Net.{no_line}
use Rattle.credit.specs.Plans.{with_debt}
use Rattle.rings.specs.Rings.{steps, once, on, cancel}
use Rattle.rings.specs.Rounds.{Under, Met}
use Rattle.rings.proofs.Rings.{cancel_line, cancel_at, cancel_length, line_falls}

-- v is the least that is owed along the ring on the first i lines, or still the largest trust
pub record Least (ms : List ℕ) (ls : List Line) (i : ℕ) (v : ℤ) : Type 0 where
  pub most : v ≤ℤ pos 1000000
  pub under : (j : ℕ) → j < i → Under ms v (get_or ls j no_line)
  pub met : (v ≡ pos 1000000) ⊎ ((j : ℕ) × (j < i) × Met ms v (get_or ls j no_line))

pub least_none : (ms : List ℕ) (ls : List Line) (v : ℤ) → v ≡ pos 1000000 → Least ms ls 0 v
least_none ms ls v e = record { most = omega (arith, ints, e); under = λ j h. absurd (omega arith); met = inl e }

pub least_more : (ms : List ℕ) (ls : List Line) (i : ℕ) (v u w : ℤ) → u ≡ v → Least ms ls i v → w ≤ℤ u → Under ms w (get_or ls i no_line) → (w ≡ u) ⊎ Met ms w (get_or ls i no_line) → Least ms ls (i + 1) w
least_more ms ls i v u w e l h here one = record {
  most = omega (arith, ints, e, h, l.most);
  under = below_more (λ j. Under ms w (get_or ls j no_line)) i (λ j g. let o = l.under j g in (λ f. omega (arith, ints, e, h, o.0 f), λ f. omega (arith, ints, e, h, o.1 f))) here;
  met = go one l.met;
}
  where
    go : (w ≡ u) ⊎ Met ms w (get_or ls i no_line) → (v ≡ pos 1000000) ⊎ ((j : ℕ) × (j < i) × Met ms v (get_or ls j no_line)) → (w ≡ pos 1000000) ⊎ ((j : ℕ) × (j < i + 1) × Met ms w (get_or ls j no_line))
    go (inl f) (inl k) = inl (f ∙ e ∙ k)
    go (inl f) (inr k) = inr (k.0, omega (arith, k.1), subst (λ (z : ℤ). Met ms z (get_or ls k.0 no_line)) (sym (f ∙ e)) k.2)
    go (inr m) k = inr (i, omega arith, m)

-- the first i lines are lowered
pub record Lowering (ms : List ℕ) (v : ℤ) (ls ks : List Line) (i : ℕ) : Type 0 where
  pub long : length ks ≡ length ls
  pub done : (j : ℕ) → j < i → get_or ks j no_line ≡ cancel_line (steps ms) v (get_or ls j no_line)
  pub left : (j : ℕ) → i ≤ j → get_or ks j no_line ≡ get_or ls j no_line

pub lowering_none : (ms : List ℕ) (v : ℤ) (ls : List Line) → Lowering ms v ls ls 0
lowering_none ms v ls = record { long = refl; done = λ j h. absurd (omega arith); left = λ j h. refl }

pub lowering_more : (ms : List ℕ) (v u : ℤ) (ls ks : List Line) (i : ℕ) (k : Line) → once ms ≡ true → u ≡ v → i < length ks → Lowering ms v ls ks i
    → k ≡ with_debt (get_or ks i no_line) (((get_or ks i no_line).debt -ℤ only (on (get_or ks i no_line).b (get_or ks i no_line).a (steps ms)) u) +ℤ only (on (get_or ks i no_line).a (get_or ks i no_line).b (steps ms)) u)
    → Lowering ms v ls (set ks i k) (i + 1)
lowering_more ms v u ls ks i k o e h l f = record {
  long = length-set ks i k ∙ l.long;
  done = below_more (λ j. get_or (set ks i k) j no_line ≡ cancel_line (steps ms) v (get_or ls j no_line)) i
      (λ j g. get_or-set_other ks i j k no_line (λ z. omega (arith, z, g)) ∙ l.done j g)
      (get_or-set_same ks i k no_line h ∙ f ∙ sym (line_falls ms u (get_or ks i no_line) o) ∙ ap (cancel_line (steps ms) u) (l.left i (omega arith)) ∙ ap (λ (z : ℤ). cancel_line (steps ms) z (get_or ls i no_line)) e);
  left = λ j g. get_or-set_other ks i j k no_line (λ z. omega (arith, z, g)) ∙ l.left j (omega (arith, g));
}

pub lowering_all : (ms : List ℕ) (v : ℤ) (ls ks : List Line) (i : ℕ) → length ks ≤ i → Lowering ms v ls ks i → ks ≡ cancel (steps ms) v ls
lowering_all ms v ls ks i h l =
    ext_get_or no_line ks (cancel (steps ms) v ls) (l.long ∙ sym (cancel_length (steps ms) v ls))
    (λ j g. l.done j (omega (arith, g, h)) ∙ sym (cancel_at (steps ms) v ls j (omega (arith, g, l.long))))

-- an amount from 0 to the largest trust, or 0
pub only_within : (t : Bool) (v : ℤ) → pos 0 ≤ℤ v → v ≤ℤ pos 1000000 → (pos 0 ≤ℤ only t v) × (only t v ≤ℤ pos 1000000)
only_within true v h k = (h, k)
only_within false v h k = (omega (arith, ints), omega (arith, ints))
