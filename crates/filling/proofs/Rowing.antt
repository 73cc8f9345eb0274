-- The rows of the room graph, line by line.
use Rattle.std.proofs.Common.{◌≡◌, ℕ, ◌+◌, ◌<◌, Bool, true, ◌&&◌, ◌||◌, eqb, ltb, ◌≢◌, ◌⊎◌, List, length, get_or, take, ℤ, Ok, Err, Result, sym, refl, ap, ◌∙◌, subst, inl, inr, arith}
use lib.Signed.{le_z}
use Rattle.std.proofs.lemmas.Bool.{cases_eq, eq-eqb, ne_eqb, lt-ltb}
use Rattle.std.proofs.lemmas.Bool.Decides.{nat_tests}
use Rattle.std.proofs.lemmas.List.{get_or_default}
use Rattle.std.proofs.lemmas.List.Folds.{Any-from_list_any, list_any_at, list_any_more}
use Rattle.std.specs.List.{list_any}
use Rattle.lists.specs.Lists.{listed}
use Rattle.credit.specs.declared.line.Line.{Line}
use Rattle.credit.specs.Net.{no_line}
use Rattle.credit.specs.Plans.{room_from}
use Rattle.members.specs.declared.group.Group.{Group}
use Rattle.search.specs.Chains.{IsChain}
use Rattle.search.specs.Answers.{Answered}
use Rattle.search.specs.declared.chain.Chain.{Chain}
use Rattle.filling.specs.Steps.{leads, RoomStep}

-- a step from m to n, where the test holds and both are the members x and y
abbrev pub step : Bool → (x y m n : ℕ) → Bool
step t x y m n = t && (eqb m x && ltb m 64 && (eqb n y && ltb n 64))

module _ (r : Bool) (l : Line) (least : ℤ) (n : ℕ) (h : l.a < l.b) (k : l.b < 64) where
  abbrev Same : ℕ → Type 0
  Same m =
      ((r || step (le_z least (room_from l l.a)) l.a l.b m n) || step (le_z least (room_from l l.b)) l.b l.a m n) ≡ (r || leads l least m n)

  from_a : Same l.a
  from_a = grind (arith, nat_tests)

  from_b : Same l.b
  from_b =
      let d : l.b ≢ l.a = omega arith in
      rw (ne_eqb l.b l.a d, eq-eqb l.b l.b refl, lt-ltb l.b 64 k) (grind (arith, nat_tests))

  from_other : (m : ℕ) → m ≢ l.a → m ≢ l.b → Same m
  from_other m d e = grind (arith, nat_tests)

  -- the two steps over a line are those that it leads along
  pub both_steps : (m : ℕ) → Same m
  both_steps m = by (cases_eq m l.a) (cases_eq m l.b)
    where
      by : (m ≡ l.a) ⊎ (m ≡ l.a → ⊥) → (m ≡ l.b) ⊎ (m ≡ l.b → ⊥) → Same m
      by (inl e) other = subst (λ t. Same t) (sym e) from_a
      by (inr d) (inl e) = subst (λ t. Same t) (sym e) from_b
      by (inr d) (inr e) = from_other m d e

-- whether some of the lines leads from m to n
abbrev pub any_leads : List Line → ℤ → (m n : ℕ) → Bool
any_leads ls least m n = list_any (λ l. leads l least m n) ls

-- a line more
pub any_more : (ls : List Line) (least : ℤ) (m n i : ℕ) (l : Line) (r s : Bool) → i < length ls → l ≡ get_or ls i no_line
    → r ≡ any_leads (take i ls) least m n → s ≡ (r || leads l least m n) → s ≡ any_leads (take (i + 1) ls) least m n
any_more ls least m n i l r s h e f g =
    g ∙ ap (λ t. t || leads l least m n) f ∙ ap (λ t. any_leads (take i ls) least m n || leads t least m n) e ∙ sym (list_any_more (λ t. leads t least m n) ls i no_line h)

-- which is a step
pub any_step : (ls : List Line) (least : ℤ) (m n : ℕ) → any_leads ls least m n ≡ true → RoomStep ls least m n
any_step ls least m n e =
    let a = Any-from_list_any (λ l. leads l least m n) ls e in
    (a.0, (a.2, ap (λ l. leads l least m n) (get_or_default ls a.0 no_line a.1 a.2 ∙ a.3) ∙ a.4))

pub step_any : (ls : List Line) (least : ℤ) (m n : ℕ) → RoomStep ls least m n → any_leads ls least m n ≡ true
step_any ls least m n s = list_any_at (λ l. leads l least m n) ls s.0 no_line s.1.0 s.1.1

-- ---- an answer of the search on a graph that has the same steps
module _ (S T : ℕ → ℕ → Type 0) (to : (m n : ℕ) → S m n → T m n) (back : (m n : ℕ) → T m n → S m n) (p q : ℕ) where
  chain_same : (A B : ℕ → ℕ → Type 0) → ((m n : ℕ) → A m n → B m n) → (c : List ℕ) (k : ℕ) → IsChain A p q c k → IsChain B p q c k
  chain_same A B f c k h = record { long = h.long; first = h.first; last = h.last; members = h.members; linked = λ i l. f _ _ (h.linked i l) }

  pub answered_same : (r : Result Chain Group) → Answered S p q r → Answered T p q r
  answered_same (Ok chain) h =
      record {
        chain = chain_same S T to (listed chain.members) _ h.chain;
        apart = h.apart;
        least = λ other j o. h.least other j (chain_same T S back other j o);
      }
  answered_same (Err group) h =
      record { inside = h.inside; outside = h.outside; closed = λ m n hm hn i s. h.closed m n hm hn i (back m n s) }
