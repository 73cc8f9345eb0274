-- A chain of different members filled hop by hop: the lines are different, the change is a flow, and no room turns negative.
use Rattle.std.proofs.Common.{◌≡◌, ℕ, zero, suc, ◌+◌, ◌<◌, ◌≤◌, true, eqb, ◌≢◌, List, length, get_or, take, drop, ℤ, pos, ◌+ℤ◌, ◌-ℤ◌, ◌≤ℤ◌, sym, refl, ap, ◌∙◌, subst, add-one, arith}
use lib.Signed.{le_z}
use Rattle.std.proofs.lemmas.Int.{ints}
use Rattle.std.proofs.lemmas.List.{length-set, get_or-set_other, drop-set-lt, get_or_default, take_all}
use Rattle.std.proofs.lemmas.List.Sums.{fold_more}
use Rattle.std.proofs.lemmas.Bool.Decides.{nat_tests}
use Rattle.std.specs.List.{All, AllPairs}
use Rattle.credit.specs.declared.line.Line.{Line}
use Rattle.credit.specs.Sums.{only}
use Rattle.credit.specs.Net.{no_line}
use Rattle.credit.specs.Plans.{booked, moved, sent, Flow, fits, sent_from, room_from}
use Rattle.credit.specs.Pairs.{joins}
use Rattle.credit.proofs.Booked.{booked_any, length_booked}
use Rattle.credit.proofs.Sends.{flow_then, fits_set, roomy_at, flow_sent, roomy_sent}
use Rattle.filling.specs.Steps.{leads}
use Rattle.filling.specs.declared.chain.Hop.{Hop}
use Rattle.filling.specs.Fillings.{no_hop, sent_over, sent_along, Over, room_over}

-- a hop more
pub along_more : (ls : List Line) (hops : List Hop) (x : ℤ) (plan : List ℤ) (i : ℕ) → i < length hops
    → sent_along ls (take (i + 1) hops) x plan ≡ sent_over ls x (sent_along ls (take i hops) x plan) (get_or hops i no_hop)
along_more ls hops x plan i h = fold_more (sent_over ls x) plan hops i no_hop h

pub leads_parts : (l : Line) (least : ℤ) (m n : ℕ) → leads l least m n ≡ true → (joins m n l ≡ true) × (le_z least (room_from l m) ≡ true)
leads_parts l least m n e = grind (arith, nat_tests)

-- a line joins no other members
other_line : (l : Line) (m n p q : ℕ) → joins m n l ≡ true → joins p q l ≡ true → m ≢ p → m ≢ q → ⊥
other_line l m n p q h k d e = grind (arith, nat_tests)

flow_still : (ls : List Line) (p : ℕ) (n : ℤ) (x : List ℤ) → Flow ls p p n x x
flow_still ls p n x m = still (sent m ls x) (only (eqb m p) n)
  where
    still : (a b : ℤ) → a ≡ (a +ℤ b) -ℤ b
    still a b = omega (arith, ints)

module _ (ls : List Line) (plan : List ℤ) (long : length ls ≤ length plan) (least : ℤ) (chain : List ℕ) (hops : List Hop)
    (apart : (i j : ℕ) → i ≤ length hops → j ≤ length hops → get_or chain i 0 ≡ get_or chain j 0 → i ≡ j)
    (over : (i : ℕ) → i < length hops → Over (booked ls plan) least chain i (get_or hops i no_hop)) where
  abbrev place : ℕ → ℕ
  place i = (get_or hops i no_hop).place

  here : (i : ℕ) → i < length hops → place i < length ls
  here i h = omega (arith, (over i h).1.0, length_booked ls plan)

  joined : (i : ℕ) → i < length hops → joins (get_or chain i 0) (get_or chain (i + 1) 0) (get_or ls (place i) no_line) ≡ true
  joined i h =
      ap (joins (get_or chain i 0) (get_or chain (i + 1) 0)) (sym (booked_any ls plan (place i) (here i h)))
      ∙ (leads_parts (get_or (booked ls plan) (place i) no_line) least _ _ (over i h).1.1).0

  other : (i j : ℕ) → i < j → j < length hops → place j ≢ place i
  other i j h l e =
      other_line (get_or ls (place i) no_line) _ _ _ _ (joined i (omega arith)) (subst (λ t. joins (get_or chain j 0) (get_or chain (j + 1) 0) (get_or ls t no_line) ≡ true) e (joined j l))
      (λ f. let s : i ≡ j = apart i j (omega arith) (omega arith) f in omega arith)
      (λ f. let s : i ≡ j + 1 = apart i (j + 1) (omega arith) (omega arith) f in omega arith)

  -- no two hops go over the same line
  pub all_apart : AllPairs (λ g h. g.place ≢ h.place) hops
  all_apart i j d h l e =
      other i j h l (ap (λ (t : Hop). t.place) (get_or_default hops j no_hop d l) ∙ sym e ∙ ap (λ (t : Hop). t.place) (get_or_default hops i d no_hop (omega arith)))

  module _ (x : ℤ) where
    abbrev at : ℕ → List ℤ
    at zero = plan
    at (suc i) = sent_over ls x (at i) (get_or hops i no_hop)

    at_is : (i : ℕ) → i ≤ length hops → at i ≡ sent_along ls (take i hops) x plan
    at_is zero h = refl
    at_is (suc i) h =
        ap (λ t. sent_over ls x t (get_or hops i no_hop)) (at_is i (omega arith)) ∙ sym (along_more ls hops x plan i (omega arith)) ∙ ap (λ t. sent_along ls (take t hops) x plan) (add-one i)

    at_all : at (length hops) ≡ sent_along ls hops x plan
    at_all = at_is (length hops) (omega arith) ∙ ap (λ t. sent_along ls t x plan) (take_all (length hops) hops (omega arith))

    at_length : (i : ℕ) → length (at i) ≡ length plan
    at_length zero = refl
    at_length (suc i) = length-set (at i) (place i) _ ∙ at_length i

    at_behind : (i : ℕ) → i ≤ length hops → drop (length ls) (at i) ≡ drop (length ls) plan
    at_behind zero h = refl
    at_behind (suc i) h = drop-set-lt (length ls) (at i) (place i) _ (here i (omega arith)) ∙ at_behind i (omega arith)

    -- what is still ahead is as it was
    at_ahead : (i j : ℕ) → i ≤ j → j < length hops → get_or (at i) (place j) (pos 0) ≡ get_or plan (place j) (pos 0)
    at_ahead zero j h l = refl
    at_ahead (suc i) j h l = get_or-set_other (at i) (place i) (place j) _ (pos 0) (other i j (omega arith) l) ∙ at_ahead i j (omega arith) l

    at_flow : (i : ℕ) → i ≤ length hops → Flow ls (get_or chain 0 0) (get_or chain i 0) x plan (at i)
    at_flow zero h = flow_still ls (get_or chain 0 0) x plan
    at_flow (suc i) h =
        flow_then ls (get_or chain 0 0) (get_or chain i 0) (get_or chain (suc i) 0) x plan (at i) (at (suc i)) (at_flow i (omega arith))
        (subst (λ m. Flow ls (get_or chain i 0) (get_or chain (suc i) 0) x (at i) (sent_over ls x (at i) (record { place = place i; from = m }))) (sym (over i (omega arith)).0)
        (flow_sent ls (at i) (place i) (here i (omega arith)) (omega (arith, here i (omega arith), at_length i)) (get_or chain i 0) (get_or chain (suc i) 0) x
        (subst (λ t. joins (get_or chain i 0) (get_or chain t 0) (get_or ls (place i) no_line) ≡ true) (add-one i) (joined i (omega arith)))
        (λ e. let s : i ≡ suc i = apart i (suc i) (omega arith) (omega arith) e in omega arith)))

    at_fits : fits ls plan ≡ true → pos 0 ≤ℤ x → ((i : ℕ) → i < length hops → x ≤ℤ room_over (booked ls plan) (get_or hops i no_hop)) → (i : ℕ) → i ≤ length hops → fits ls (at i) ≡ true
    at_fits f low high zero h = f
    at_fits f low high (suc i) h =
        let p = place i in
        let l = get_or ls p no_line in
        let m = (get_or hops i no_hop).from in
        let hp : p < length ls = here i (omega arith) in
        let ka : p < length (at i) = omega (arith, at_length i) in
        let g = at_fits f low high i (omega arith) in
        let same : get_or (at i) p (pos 0) ≡ get_or plan p (pos 0) = at_ahead i i (omega arith) (omega arith) in
        let room : x ≤ℤ room_from (moved l (get_or (at i) p (pos 0))) m =
        subst (λ t. x ≤ℤ room_from (moved l t) m) (sym same) (subst (λ t. x ≤ℤ room_from t m) (booked_any ls plan p hp) (high i (omega arith))) in
        fits_set ls (at i) p hp ka (sent_from l m (get_or (at i) p (pos 0)) x) g
        (roomy_sent l m (get_or (at i) p (pos 0)) x (roomy_at ls (at i) p hp ka g) low room)

    -- ---- all hops
    pub along_length : length (sent_along ls hops x plan) ≡ length plan
    along_length = ap (λ t. length t) (sym at_all) ∙ at_length (length hops)

    pub along_behind : drop (length ls) (sent_along ls hops x plan) ≡ drop (length ls) plan
    along_behind = ap (λ t. drop (length ls) t) (sym at_all) ∙ at_behind (length hops) (omega arith)

    pub along_flow : Flow ls (get_or chain 0 0) (get_or chain (length hops) 0) x plan (sent_along ls hops x plan)
    along_flow = subst (λ t. Flow ls (get_or chain 0 0) (get_or chain (length hops) 0) x plan t) at_all (at_flow (length hops) (omega arith))

    pub along_fits : fits ls plan ≡ true → pos 0 ≤ℤ x → All (λ h. x ≤ℤ room_over (booked ls plan) h) hops → fits ls (sent_along ls hops x plan) ≡ true
    along_fits f low high = ap (fits ls) (sym at_all) ∙ at_fits f low (λ i h. high i no_hop h) (length hops) (omega arith)
