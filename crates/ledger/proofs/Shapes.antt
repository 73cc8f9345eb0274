-- What depends on the lines without their debts.
use Rattle.std.proofs.Common.{◌≡◌, ℕ, suc, ◌<◌, ◌==◌, Bool, true, cond, replicate, List, [], ◌∷◌, length, ℤ, pos, ◌+ℤ◌, vec_items, Vec, sym, refl, ap, ◌∙◌, arith}
use lib.ListN.{length-replicate}
use Rattle.std.specs.Vec.{with_items}
use Rattle.std.specs.declared.alloc.Global.{Global}
use Rattle.std.proofs.lemmas.Int.{ints}
use Rattle.std.proofs.lemmas.Bool.{eq-eqb}
use Rattle.std.proofs.lemmas.List.{length-map, with_items_is}
use Rattle.lists.specs.Lists.{listed}
use Rattle.members.specs.Groups.{inside}
use Rattle.credit.specs.declared.line.Line.{Line}
use Rattle.credit.specs.Sums.{only, every}
use Rattle.credit.specs.Net.{net, bounded}
use Rattle.credit.specs.Rooms.{room, line_trust, trust, net_inside}
use Rattle.credit.specs.Plans.{with_debt, booked, fits}
use Rattle.credit.specs.Pairs.{distinct}
use Rattle.credit.proofs.Sums.{members_ext, every_map}
use Rattle.credit.proofs.Rooms.{AllEnds, room_is, trust_into_ext}
use Rattle.credit.proofs.Booked.{booked_zeros, fits_zeros}
use Rattle.rings.proofs.Rings.{shape, distinct_shape}
use Rattle.ledger.specs.declared.state.Savepoint.{Savepoint}
use Rattle.ledger.specs.Debts.{debts, with_debts}
use Rattle.ledger.specs.Sound.{complete, restorable}
use Rattle.ledger.specs.Calls.{blank}
use Rattle.ledger.specs.Answers.{cleared}

-- ---- lines of one shape
pub shape_booked : (ls : List Line) (xs : List ℤ) → shape (booked ls xs) ≡ shape ls
shape_booked [] xs = refl
shape_booked (l ∷ ls) [] = refl
shape_booked (l ∷ ls) (x ∷ xs) = ap (λ (t : List Line). with_debt l (pos 0) ∷ t) (shape_booked ls xs)

pub shape_with_debts : (ls : List Line) (ds : List ℤ) → shape (with_debts ls ds) ≡ shape ls
shape_with_debts [] ds = refl
shape_with_debts (l ∷ ls) [] = ap (λ (t : List Line). with_debt l (pos 0) ∷ t) (shape_with_debts ls [])
shape_with_debts (l ∷ ls) (d ∷ ds) = ap (λ (t : List Line). with_debt l (pos 0) ∷ t) (shape_with_debts ls ds)

pub length_shape : (ls : List Line) → length (shape ls) ≡ length ls
length_shape [] = refl
length_shape (l ∷ ls) = ap suc (length_shape ls)

pub length_alike : (ls ks : List Line) → shape ls ≡ shape ks → length ls ≡ length ks
length_alike ls ks e = sym (length_shape ls) ∙ ap length e ∙ length_shape ks

pub distinct_alike : (ls ks : List Line) → shape ls ≡ shape ks → distinct ls ≡ distinct ks
distinct_alike ls ks e = sym (distinct_shape ls) ∙ ap distinct e ∙ distinct_shape ks

pub with_debts_shape : (ls : List Line) (ds : List ℤ) → with_debts (shape ls) ds ≡ with_debts ls ds
with_debts_shape [] ds = refl
with_debts_shape (l ∷ ls) [] = ap (λ (t : List Line). with_debt l (pos 0) ∷ t) (with_debts_shape ls [])
with_debts_shape (l ∷ ls) (d ∷ ds) = ap (λ (t : List Line). with_debt l d ∷ t) (with_debts_shape ls ds)

-- lines of one shape with the same debts are the same
pub with_debts_alike : (ls ks : List Line) (ds : List ℤ) → shape ls ≡ shape ks → with_debts ls ds ≡ with_debts ks ds
with_debts_alike ls ks ds e = sym (with_debts_shape ls ds) ∙ ap (λ (v : List Line). with_debts v ds) e ∙ with_debts_shape ks ds

pub with_debts_debts : (ls : List Line) → with_debts ls (debts ls) ≡ ls
with_debts_debts [] = refl
with_debts_debts (l ∷ ls) = ap (λ (t : List Line). l ∷ t) (with_debts_debts ls)

-- what holds of a savepoint in a complete stack, and in a restorable one
abbrev pub covers : List Line → Savepoint → Bool
covers ls sp = length (listed sp.debts) == length ls

abbrev pub safe : List Line → Savepoint → Bool
safe ls sp = every bounded (with_debts ls (listed sp.debts))

-- both hold where the debts are those of the lines
pub covers_debts : (ls : List Line) (sp : Savepoint) → listed sp.debts ≡ debts ls → covers ls sp ≡ true
covers_debts ls sp e = eq-eqb (length (listed sp.debts)) (length ls) (ap length e ∙ length-map ls (λ l. l.debt))

pub safe_debts : (ls : List Line) (sp : Savepoint) → every bounded ls ≡ true → listed sp.debts ≡ debts ls → safe ls sp ≡ true
safe_debts ls sp b e = ap (λ ds. every bounded (with_debts ls ds)) e ∙ ap (every bounded) (with_debts_debts ls) ∙ b

-- and stay so where the lines keep their shape
pub complete_alike : (ls ks : List Line) (sps : List Savepoint) → shape ls ≡ shape ks → complete ls sps ≡ true → complete ks sps ≡ true
complete_alike ls ks sps e h = ap (λ (n : ℕ). every (λ sp. length (listed sp.debts) == n) sps) (length_alike ks ls (sym e)) ∙ h

pub restorable_alike : (ls ks : List Line) (sps : List Savepoint) → shape ls ≡ shape ks → restorable ls sps ≡ true → restorable ks sps ≡ true
restorable_alike ls ks sps e h =
    every_map (safe ls) (safe ks) sps (λ sp b. ap (every bounded) (with_debts_alike ks ls (listed sp.debts) (sym e)) ∙ b) h

-- the lines of a vector that was written over by lines of the same shape
pub over : (v : Vec Line Global) (ws : List Line) → shape ws ≡ shape (vec_items v) → vec_items (with_items v ws) ≡ ws
over v ws e = with_items_is v ws (omega (arith, length_alike ws (vec_items v) e, v.ok.0))

-- ---- rooms
trust_shape : (i j : ℕ) (ls : List Line) → trust i j (shape ls) ≡ trust i j ls
trust_shape i j [] = refl
trust_shape i j (l ∷ ls) = ap (λ (v : ℤ). line_trust i j l +ℤ v) (trust_shape i j ls)

pub trust_alike : (ls ks : List Line) → shape ls ≡ shape ks → (i j : ℕ) → trust i j ls ≡ trust i j ks
trust_alike ls ks e i j = sym (trust_shape i j ls) ∙ ap (λ (v : List Line). trust i j v) e ∙ trust_shape i j ks

-- the same trusts and nets give the same rooms
pub room_alike : (g : ℕ) (ls ks : List Line) → AllEnds ls → AllEnds ks → shape ls ≡ shape ks → ((m : ℕ) → m < 64 → net m ls ≡ net m ks) → room g ls ≡ room g ks
room_alike g ls ks e f sh nt =
    omega (
      arith,
      ints,
      room_is g ls e,
      room_is g ks f,
      trust_into_ext g (λ i j. trust i j ls) (λ i j. trust i j ks) (λ i j hi hj. trust_alike ls ks sh i j),
      nets,
    )
  where
    nets : net_inside g (λ m. net m ls) ≡ net_inside g (λ m. net m ks)
    nets = members_ext 64 _ _ (λ m h. ap (λ (v : ℤ). only (inside g m) v) (nt m h))

-- ---- the blank sheet
pub booked_blank : (ls : List Line) → booked ls blank ≡ ls
unfolding blank
booked_blank ls = booked_zeros ls 256

pub length_blank : length blank ≡ 256
unfolding blank
length_blank = length-replicate 256 (pos 0)

-- what is left of a sheet of 256 places
pub cleared_whole : (plan : List ℤ) → length plan ≡ 256 → cleared plan ≡ replicate 256 (pos 0)
cleared_whole plan e = ap (λ (n : ℕ). cond (n == 256) (replicate n (pos 0)) plan) e

pub fits_blank : (ls : List Line) → every bounded ls ≡ true → fits ls blank ≡ true
unfolding blank
fits_blank ls e = fits_zeros ls 256 e
