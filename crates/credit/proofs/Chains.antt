-- What a chain of iterators over lines adds up to, and a full table of net positions.
use Rattle.std.proofs.Common.{◌≡◌, ℕ, zero, suc, ◌+◌, ◌*◌, ◌<◌, ◌≤◌, Bool, true, List, [], ◌∷◌, length, get_or, take, map, map-id, fold, ℤ, pos, ◌+ℤ◌, neg_ℤ, ◌≤ℤ◌, FitsSigned, w64, Option, add-zero, zero-add, length-take, refl, sym, ap, ◌∙◌, subst, arith}
use Rattle.std.proofs.lemmas.Int.{ints}
use Rattle.std.proofs.lemmas.Bool.{and_parts, and_from}
use Rattle.std.proofs.lemmas.Nat.{mul-le}
use Rattle.std.proofs.lemmas.List.{take-map}
use Rattle.std.proofs.lemmas.List.FromFn.{fill_by_all}
use Rattle.std.proofs.lemmas.Iterator.{YieldsList}
use Rattle.std.proofs.lemmas.Iterator.Consumers.{YieldsList-so_far}
use Rattle.std.specs.List.{enumerate_from}
use Rattle.std.specs.Iterator.{Yields}
use Rattle.std.specs.Iterator.Runs.{EachRunFrom, YieldsRun}
use Rattle.credit.specs.declared.line.Line.{Line}
use Rattle.credit.specs.Sums.{sum_z, every}
use Rattle.credit.specs.Net.{bounded, share, net, net_table}
use Rattle.credit.specs.Rooms.{room_out, room}
use Rattle.credit.specs.Plans.{booked, moved, fits}
use Rattle.credit.proofs.Bounds.{share_range, room_range}
use Rattle.credit.proofs.Booked.{booked_none, still, bounded_booked, length_booked}

fold_sum_from : {X : Type 0} (f : X → ℤ) (a : ℤ) (xs : List X) → fold ◌+ℤ◌ a (map f xs) ≡ a +ℤ sum_z f xs
fold_sum_from f a [] = omega (arith, ints)
fold_sum_from f a (x ∷ xs) = omega (arith, ints, fold_sum_from f (a +ℤ f x) xs)

-- std's fold is this crate's sum
pub fold_sum : {X : Type 0} (f : X → ℤ) (xs : List X) → fold ◌+ℤ◌ (pos 0) (map f xs) ≡ sum_z f xs
fold_sum f xs = omega (arith, ints, fold_sum_from f (pos 0) xs)

-- the sums of a list's fronts fit where the list is what the chain gives
pub fits_from_fronts : {S : Type 0} {steps : S → Option ℤ → S → Type 0} {all : List ℤ} (s : S) → YieldsList steps (λ x. x) s all → ((n : ℕ) → FitsSigned w64 (fold ◌+ℤ◌ (pos 0) (take n all))) → EachRunFrom steps s (λ p. FitsSigned w64 (fold ◌+ℤ◌ (pos 0) p.items))
unfolding YieldsRun
fits_from_fronts {steps = steps} {all} s e f p _ at =
    let so : map (λ x. x) p.items ≡ take (length p.items) all = YieldsList-so_far e p.items p.gave.0.0 (subst (λ u. Yields steps u p.items p.gave.0.0) at p.gave.0.1) in
    subst (λ t. FitsSigned w64 (fold ◌+ℤ◌ (pos 0) t)) (sym so ∙ map-id p.items) (f (length p.items))

-- each line of a front passes what each line passes
every_take : {X : Type 0} (p : X → Bool) (n : ℕ) (xs : List X) → every p xs ≡ true → every p (take n xs) ≡ true
every_take p zero xs e = refl
every_take p (suc n) [] e = refl
every_take p (suc n) (x ∷ xs) e = let h = and_parts (p x) (every p xs) e in and_from (p x) (every p (take n xs)) h.0 (every_take p n xs h.1)

-- a sum is within its count times the bounds of what each brings
pub sum_range : {X : Type 0} (p : X → Bool) (f : X → ℤ) (a b : ℕ) → ((x : X) → p x ≡ true → (neg_ℤ (pos a) ≤ℤ f x) × (f x ≤ℤ pos b)) → (xs : List X) → every p xs ≡ true → (neg_ℤ (pos (length xs * a)) ≤ℤ sum_z f xs) × (sum_z f xs ≤ℤ pos (length xs * b))
sum_range p f a b r [] e = (omega (arith, ints), omega (arith, ints))
sum_range p f a b r (x ∷ xs) e =
    let h = and_parts (p x) (every p xs) e in
    let k = sum_range p f a b r xs h.1 in
    let l = r x h.0 in
    (omega (arith, ints), omega (arith, ints))

pub sum_fits : {X : Type 0} (p : X → Bool) (f : X → ℤ) (a b : ℕ) → ((x : X) → p x ≡ true → (neg_ℤ (pos a) ≤ℤ f x) × (f x ≤ℤ pos b)) → a ≤ 2000000 → b ≤ 2000000 → (xs : List X) → every p xs ≡ true → length xs ≤ 256 → (n : ℕ) → FitsSigned w64 (fold ◌+ℤ◌ (pos 0) (take n (map f xs)))
sum_fits {X} p f a b r ha hb xs e h n =
    let k = sum_range p f a b r (take n xs) (every_take p n xs e) in
    let s : fold ◌+ℤ◌ (pos 0) (take n (map f xs)) ≡ sum_z f (take n xs) = ap (fold ◌+ℤ◌ (pos 0)) (take-map f n xs) ∙ fold_sum f (take n xs) in
    let t : length (take n xs) ≤ 256 = omega (arith, length-take {A = X}) in
    omega (arith, ints, mul-le (length (take n xs)) a 256 2000000 t ha, mul-le (length (take n xs)) b 256 2000000 t hb)

-- a net position is within 1,000,000 for each line
pub net_range : (m : ℕ) (ls : List Line) → every bounded ls ≡ true → (neg_ℤ (pos (length ls * 1000000)) ≤ℤ net m ls) × (net m ls ≤ℤ pos (length ls * 1000000))
net_range m ls e = sum_range bounded (share m) 1000000 1000000 (share_range m) ls e

-- what the places of the lines bring to the room of a group under a plan: what the booked lines bring
rooms_from : (g : ℕ) (ls : List Line) (xs ys : List ℤ) (n : ℕ) → ((k : ℕ) → get_or xs (n + k) (pos 0) ≡ get_or ys k (pos 0)) → map (λ p. room_out g (moved p.1 (get_or xs p.0 (pos 0)))) (enumerate_from n ls) ≡ map (room_out g) (booked ls ys)
rooms_from g [] xs ys n e = refl
rooms_from g (l ∷ ls) xs [] n e =
    let here : moved l (get_or xs n (pos 0)) ≡ l = ap (moved l) (ap (λ t. get_or xs t (pos 0)) (sym (add-zero n)) ∙ e 0) ∙ still l in
    let rest = rooms_from g ls xs [] (n + 1) (λ k. ap (λ t. get_or xs t (pos 0)) (omega arith) ∙ e (k + 1)) ∙ ap (map (room_out g)) (booked_none ls) in
    ap (λ t. room_out g t ∷ map (λ p. room_out g (moved p.1 (get_or xs p.0 (pos 0)))) (enumerate_from (n + 1) ls)) here ∙ ap (λ t. room_out g l ∷ t) rest
rooms_from g (l ∷ ls) xs (y ∷ ys) n e =
    let here : get_or xs n (pos 0) ≡ y = ap (λ t. get_or xs t (pos 0)) (sym (add-zero n)) ∙ e 0 in
    let rest = rooms_from g ls xs ys (n + 1) (λ k. ap (λ t. get_or xs t (pos 0)) (omega arith) ∙ e (suc k)) in
    ap (λ t. room_out g (moved l t) ∷ map (λ p. room_out g (moved p.1 (get_or xs p.0 (pos 0)))) (enumerate_from (n + 1) ls)) here ∙ ap (λ t. room_out g (moved l y) ∷ t) rest

pub rooms_booked : (g : ℕ) (ls : List Line) (xs : List ℤ) → map (λ p. room_out g (moved p.1 (get_or xs p.0 (pos 0)))) (enumerate_from 0 ls) ≡ map (room_out g) (booked ls xs)
rooms_booked g ls xs = rooms_from g ls xs xs 0 (λ k. ap (λ t. get_or xs t (pos 0)) (zero-add k))

-- the room of a group after a plan, and what the fronts of its sum fit
module _ (g : ℕ) (ls : List Line) (xs : List ℤ) (b : every bounded ls ≡ true) (f : fits ls xs ≡ true) (few : length ls ≤ 256) where
  pub room_fits : (n : ℕ) → FitsSigned w64 (fold ◌+ℤ◌ (pos 0) (take n (map (λ p. room_out g (moved p.1 (get_or xs p.0 (pos 0)))) (enumerate_from 0 ls))))
  room_fits n =
      subst (λ t. FitsSigned w64 (fold ◌+ℤ◌ (pos 0) (take n t))) (sym (rooms_booked g ls xs))
      (sum_fits bounded (room_out g) 0 2000000 (room_range g) (omega arith) (omega arith) (booked ls xs) (bounded_booked ls xs b f) (omega (arith, length_booked ls xs)) n)

  pub room_total : fold ◌+ℤ◌ (pos 0) (map (λ p. room_out g (moved p.1 (get_or xs p.0 (pos 0)))) (enumerate_from 0 ls)) ≡ room g (booked ls xs)
  room_total = ap (fold ◌+ℤ◌ (pos 0)) (rooms_booked g ls xs) ∙ fold_sum (room_out g) (booked ls xs)

  pub room_bounds : (pos 0 ≤ℤ room g (booked ls xs)) × (room g (booked ls xs) ≤ℤ pos 512000000)
  room_bounds =
      let r = sum_range bounded (room_out g) 0 2000000 (room_range g) (booked ls xs) (bounded_booked ls xs b f) in
      (omega (arith, ints), omega (arith, ints, length_booked ls xs))

-- a table that has every net position at its place
pub table_full : (ls : List Line) (xs : List ℤ) → length xs ≡ 64 → ((k : ℕ) → k < 64 → get_or xs k (pos 0) ≡ net k ls) → xs ≡ net_table ls
table_full ls xs h k = fill_by_all (λ m. net m ls) xs 64 (pos 0) h k
