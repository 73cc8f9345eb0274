-- What the bounds of a line say, as orders.
use Rattle.std.proofs.Common.{◌≡◌, ℕ, ◌<◌, Bool, true, false, ◌&&◌, eqb, ltb, ◌⊎◌, ℤ, pos, ◌-ℤ◌, neg_ℤ, ◌≤ℤ◌, sym, ◌∙◌, inl, inr, arith}
use lib.Signed.{le_z}
use Rattle.std.proofs.lemmas.Int.{ints}
use Rattle.std.proofs.lemmas.Bool.{and_parts, and_from, ltb-true, cases_Bool, both_ways}
use Rattle.members.specs.Groups.{inside}
use Rattle.credit.specs.declared.line.Line.{Line}
use Rattle.credit.specs.Sums.{only}
use Rattle.credit.specs.Net.{bounded, framed, affordable, in_trust, share}
use Rattle.credit.specs.Rooms.{room_onward, room_back, line_room, room_out}
use Rattle.credit.specs.Plans.{roomy, moved}

pub le_z_order : (a b : ℤ) → le_z a b ≡ true → a ≤ℤ b
le_z_order a b h = omega (arith, ints)

pub le_z_test : (a b : ℤ) → a ≤ℤ b → le_z a b ≡ true
le_z_test a b h = sym (omega (arith, ints))

-- two tests of the same order
pub same_order : (a b c d : ℤ) → (a ≤ℤ b → c ≤ℤ d) → (c ≤ℤ d → a ≤ℤ b) → le_z a b ≡ le_z c d
same_order a b c d f g = by (cases_Bool (le_z a b)) (cases_Bool (le_z c d))
  where
    by : (le_z a b ≡ true) ⊎ (le_z a b ≡ false) → (le_z c d ≡ true) ⊎ (le_z c d ≡ false) → le_z a b ≡ le_z c d
    by (inl h) (inl k) = h ∙ sym k
    by (inl h) (inr k) = absurd (both_ways (le_z c d) k (le_z_test c d (f (le_z_order a b h))))
    by (inr h) (inl k) = absurd (both_ways (le_z a b) h (le_z_test a b (g (le_z_order c d k))))
    by (inr h) (inr k) = h ∙ sym k

-- neither room is negative where the debt is affordable
pub roomy_is : (l : Line) → roomy l ≡ affordable l
roomy_is l =
    rw (
      same_order (pos 0) (room_onward l) (neg_ℤ l.trust_b) l.debt (λ h. omega (arith, ints)) (λ h. omega (arith, ints)),
      same_order (pos 0) (room_back l) l.debt l.trust_a (λ h. omega (arith, ints)) (λ h. omega (arith, ints)),
    )

pub record Bounds (l : Line) : Type 0 where
  pub order : l.a < l.b
  pub high : l.b < 64
  pub no_less_a : pos 0 ≤ℤ l.trust_a
  pub no_more_a : l.trust_a ≤ℤ pos 1000000
  pub no_less_b : pos 0 ≤ℤ l.trust_b
  pub no_more_b : l.trust_b ≤ℤ pos 1000000
  pub least : neg_ℤ l.trust_b ≤ℤ l.debt
  pub most : l.debt ≤ℤ l.trust_a

pub bounded_facts : (l : Line) → bounded l ≡ true → Bounds l
bounded_facts l e =
    let f = and_parts (framed l) (affordable l) e in
    let g = and_parts (ltb l.a l.b) (ltb l.b 64 && (in_trust l.trust_a && in_trust l.trust_b)) f.0 in
    let h = and_parts (ltb l.b 64) (in_trust l.trust_a && in_trust l.trust_b) g.1 in
    let t = and_parts (in_trust l.trust_a) (in_trust l.trust_b) h.1 in
    let x = and_parts (le_z (pos 0) l.trust_a) (le_z l.trust_a (pos 1000000)) t.0 in
    let y = and_parts (le_z (pos 0) l.trust_b) (le_z l.trust_b (pos 1000000)) t.1 in
    let d = and_parts (le_z (neg_ℤ l.trust_b) l.debt) (le_z l.debt l.trust_a) f.1 in
    record {
      order = ltb-true l.a l.b g.0;
      high = ltb-true l.b 64 h.0;
      no_less_a = le_z_order (pos 0) l.trust_a x.0;
      no_more_a = le_z_order l.trust_a (pos 1000000) x.1;
      no_less_b = le_z_order (pos 0) l.trust_b y.0;
      no_more_b = le_z_order l.trust_b (pos 1000000) y.1;
      least = le_z_order (neg_ℤ l.trust_b) l.debt d.0;
      most = le_z_order l.debt l.trust_a d.1;
    }

pub bounded_roomy : (l : Line) → bounded l ≡ true → roomy l ≡ true
bounded_roomy l e = roomy_is l ∙ (and_parts (framed l) (affordable l) e).1

-- the rooms of a line that is roomy are not negative
pub roomy_facts : (l : Line) → roomy l ≡ true → (pos 0 ≤ℤ room_onward l) × (pos 0 ≤ℤ room_back l)
roomy_facts l e =
    let f = and_parts (le_z (pos 0) (room_onward l)) (le_z (pos 0) (room_back l)) e in
    (le_z_order (pos 0) (room_onward l) f.0, le_z_order (pos 0) (room_back l) f.1)

pub roomy_from : (l : Line) → pos 0 ≤ℤ room_onward l → pos 0 ≤ℤ room_back l → roomy l ≡ true
roomy_from l h k = and_from (le_z (pos 0) (room_onward l)) (le_z (pos 0) (room_back l)) (le_z_test (pos 0) (room_onward l) h) (le_z_test (pos 0) (room_back l) k)

-- a move that leaves a line roomy leaves it within its bounds
pub bounded_moved : (l : Line) (x : ℤ) → bounded l ≡ true → roomy (moved l x) ≡ true → bounded (moved l x) ≡ true
bounded_moved l x e h = and_from (framed l) (affordable (moved l x)) (and_parts (framed l) (affordable l) e).0 (sym (roomy_is (moved l x)) ∙ h)

-- a line brings at most 1,000,000 to a member, either way
pub share_range : (m : ℕ) (l : Line) → bounded l ≡ true → (neg_ℤ (pos 1000000) ≤ℤ share m l) × (share m l ≤ℤ pos 1000000)
share_range m l e = by (eqb m l.a) (eqb m l.b)
  where
    by : (s t : Bool) → (neg_ℤ (pos 1000000) ≤ℤ (only s l.debt -ℤ only t l.debt)) × ((only s l.debt -ℤ only t l.debt) ≤ℤ pos 1000000)
    by true true = let b = bounded_facts l e in (omega (arith, ints), omega (arith, ints))
    by true false = let b = bounded_facts l e in (omega (arith, ints), omega (arith, ints))
    by false true = let b = bounded_facts l e in (omega (arith, ints), omega (arith, ints))
    by false false = let b = bounded_facts l e in (omega (arith, ints), omega (arith, ints))

-- a line brings 0 to 2,000,000 to the room of a group
pub room_range : (g : ℕ) (l : Line) → bounded l ≡ true → (pos 0 ≤ℤ room_out g l) × (room_out g l ≤ℤ pos 2000000)
room_range g l e = by (inside g l.a) (inside g l.b)
  where
    by : (s t : Bool) → (pos 0 ≤ℤ line_room s t l) × (line_room s t l ≤ℤ pos 2000000)
    by true true = (omega (arith, ints), omega (arith, ints))
    by true false = let b = bounded_facts l e in (omega (arith, ints), omega (arith, ints))
    by false true = let b = bounded_facts l e in (omega (arith, ints), omega (arith, ints))
    by false false = (omega (arith, ints), omega (arith, ints))
