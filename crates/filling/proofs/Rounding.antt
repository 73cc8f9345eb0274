-- Rounds one after another.
use Rattle.std.proofs.Common.{◌≡◌, ℕ, zero, suc, ◌/◌, ◌<◌, ◌≤◌, true, cond, ltb, List, ℤ, pos, ◌+ℤ◌, ◌-ℤ◌, ◌≤ℤ◌, Some, None, refl, subst, inl, ⊎_elim, arith}
use Rattle.std.proofs.lemmas.Int.{ints}
use Rattle.std.proofs.lemmas.Bool.{cases_lt}
use Rattle.std.proofs.lemmas.Bool.Decides.{nat_tests}
use Rattle.credit.specs.declared.line.Line.{Line}
use Rattle.routing.specs.Meaning.{usable}
use Rattle.filling.specs.Fillings.{Fillings, none, Round, Rounds, last, next}
use Rattle.filling.proofs.Filled.{Usable, usable_facts, usable_from, Left, left_add, usable_left, fillings_leave}

pub half_some : (n : ℕ) → 1 < n → 1 ≤ n / 2
half_some n h = omega arith

pub positive : (n : ℕ) → 1 ≤ n → pos 1 ≤ℤ pos n
positive n h = omega (arith, ints)

-- half a threshold, unless it is 1
pub halved_some : (n h : ℕ) → Some h ≡ cond (ltb 1 n) (Some (n / 2)) None → (1 < n) × (h ≡ n / 2)
halved_some n h e = grind (arith, nat_tests)

pub halved_none : (n : ℕ) → 1 ≤ n → None ≡ cond (ltb 1 n) (Some (n / 2)) None → n ≡ 1
halved_none n h e = grind (arith, nat_tests)

module _ (ls : List Line) (p q : ℕ) where
  -- where nothing is to send, nothing more is filled
  idle : (fuel least : ℕ) (plan : List ℤ) → least ≤ fuel → 1 ≤ least → Rounds ls p q least (pos 0) plan (pos 0) plan
  idle zero least plan h k = absurd (omega arith)
  idle (suc fuel) least plan h k =
      ⊎_elim (λ l. next l (none, inl refl) (idle fuel (least / 2) plan (omega arith) (half_some least l)))
      (λ l. let one : 1 ≡ least = omega arith in subst (λ t. Rounds ls p q t (pos 0) plan (pos 0) plan) one (last (none, inl refl))) (cases_lt 1 least)

  -- a round that leaves nothing to send
  pub all_sent : (least : ℕ) (left : ℤ) (from to : List ℤ) → 1 ≤ least → Fillings ls p q (pos least) left from (pos 0) to → Rounds ls p q least left from (pos 0) to
  all_sent least left from to h f =
      ⊎_elim (λ l. next l (f, inl refl) (idle (least / 2) (least / 2) to (omega arith) (half_some least l)))
      (λ l. let one : least ≡ 1 = omega arith in rw one (last (rw one at f, inl refl))) (cases_lt 1 least)

  pub fillings_usable : (least left : ℤ) (from : List ℤ) (rest : ℤ) (to : List ℤ) → usable ls from ≡ true → pos 1 ≤ℤ least → Fillings ls p q least left from rest to → usable ls to ≡ true
  fillings_usable least left from rest to e h f =
      let u = usable_facts ls from e in
      usable_from ls to (usable_left ls p q (left -ℤ rest) from to u (fillings_leave ls p q least u h f))

  -- what all rounds leave
  in_two : (a b c : ℤ) → (a -ℤ b) +ℤ (b -ℤ c) ≡ a -ℤ c
  in_two a b c = omega (arith, ints)

  pub rounds_leave : {least : ℕ} {left : ℤ} {from : List ℤ} {rest : ℤ} {to : List ℤ} → Usable ls from → Rounds ls p q least left from rest to → Left ls p q (left -ℤ rest) from to
  rounds_leave u (last r) = fillings_leave ls p q (pos 1) u (omega (arith, ints)) r.0
  rounds_leave {least} {left} {from} {rest} {to} u (next {mid = mid} {via = via} h r rs) =
      let l = fillings_leave ls p q (pos least) u (positive least (omega arith)) r.0 in
      let m = rounds_leave (usable_left ls p q (left -ℤ mid) from via u l) rs in
      subst (λ t. Left ls p q t from to) (in_two left mid rest) (left_add ls p q (left -ℤ mid) (mid -ℤ rest) from via to l m)

  -- rounds from the threshold 1 are one
  pub one_round : {left : ℤ} {from : List ℤ} {rest : ℤ} {to : List ℤ} → Rounds ls p q 1 left from rest to → Round ls p q (pos 1) left from rest to
  one_round (last r) = r
  one_round (next h r rs) = absurd (omega (arith, h))
