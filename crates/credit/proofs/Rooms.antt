-- The room of a group is the trust that outsiders give insiders plus the insiders' nets; a routed amount fits every group.
use Rattle.std.proofs.Common.{◌≡◌, ℕ, ◌<◌, Bool, true, false, not, ◌&&◌, eqb, ltb, List, [], ◌∷◌, ℤ, pos, ◌+ℤ◌, ◌-ℤ◌, ◌≤ℤ◌, sym, refl, ap, ◌∙◌, arith}
use lib.Signed.{le_z}
use Rattle.std.proofs.lemmas.Int.{ints}
use Rattle.std.proofs.lemmas.Bool.{and_parts, ltb-true}
use Rattle.members.specs.Groups.{inside}
use Rattle.credit.specs.declared.line.Line.{Line}
use Rattle.credit.specs.Sums.{sum_z, members, only, every}
use Rattle.credit.specs.Net.{share, net, bounded, framed, affordable, in_trust}
use Rattle.credit.specs.Rooms.{line_room, room, line_trust, trust, trust_into, net_inside}
use Rattle.credit.specs.Plans.{booked, sent, Flow, roomy, fits}
use Rattle.credit.proofs.Sums.{sum_only, only_add, only_sub, only_swap, members_ext, members_add, members_sub, members_zero, members_sum, members_pick}

-- both ends are members
abbrev pub Ends : Line → Type 0
Ends l = (l.a < 64) × (l.b < 64)

abbrev pub AllEnds : List Line → Type 0
AllEnds [] = Unit {0}
AllEnds (l ∷ ls) = Ends l × AllEnds ls

ends_line : (l : Line) → bounded l ≡ true → Ends l
ends_line l e =
    let f = (and_parts (framed l) (affordable l) e).0 in
    let g = and_parts (ltb l.a l.b) (ltb l.b 64 && (in_trust l.trust_a && in_trust l.trust_b)) f in
    let h = and_parts (ltb l.b 64) (in_trust l.trust_a && in_trust l.trust_b) g.1 in
    let x = ltb-true l.a l.b g.0 in
    let y = ltb-true l.b 64 h.0 in
    (omega arith, y)

pub ends_bounded : (ls : List Line) → every bounded ls ≡ true → AllEnds ls
ends_bounded [] e = tt
ends_bounded (l ∷ ls) e = let h = and_parts (bounded l) (every bounded ls) e in (ends_line l h.0, ends_bounded ls h.1)

-- the insiders' share of one line
inside_share : (g : ℕ) (l : Line) → Ends l → members 64 (λ m. only (inside g m) (share m l)) ≡ only (inside g l.a) l.debt -ℤ only (inside g l.b) l.debt
inside_share g l e =
    members_ext 64 _ (λ m. only (eqb m l.a) (only (inside g m) l.debt) -ℤ only (eqb m l.b) (only (inside g m) l.debt)) (λ m h. each m)
    ∙ members_sub 64 (λ m. only (eqb m l.a) (only (inside g m) l.debt)) (λ m. only (eqb m l.b) (only (inside g m) l.debt))
    ∙ both
  where
    each : (m : ℕ) → only (inside g m) (share m l) ≡ only (eqb m l.a) (only (inside g m) l.debt) -ℤ only (eqb m l.b) (only (inside g m) l.debt)
    each m = omega (arith, ints, only_sub (inside g m) (only (eqb m l.a) l.debt) (only (eqb m l.b) l.debt), only_swap (inside g m) (eqb m l.a) l.debt, only_swap (inside g m) (eqb m l.b) l.debt)

    both : members 64 (λ m. only (eqb m l.a) (only (inside g m) l.debt)) -ℤ members 64 (λ m. only (eqb m l.b) (only (inside g m) l.debt)) ≡ only (inside g l.a) l.debt -ℤ only (inside g l.b) l.debt
    both = omega (arith, ints, members_pick 64 l.a (λ m. only (inside g m) l.debt) e.0, members_pick 64 l.b (λ m. only (inside g m) l.debt) e.1)

-- the insiders' nets, line by line
abbrev share_in : ℕ → Line → ℤ
share_in g l = only (inside g l.a) l.debt -ℤ only (inside g l.b) l.debt

sum_inside : (g : ℕ) (ls : List Line) → AllEnds ls → sum_z (λ l. members 64 (λ m. only (inside g m) (share m l))) ls ≡ sum_z (share_in g) ls
sum_inside g [] e = refl
sum_inside g (l ∷ ls) e = omega (arith, ints, inside_share g l e.0, sum_inside g ls e.1)

net_inside_lem : (g : ℕ) (ls : List Line) → AllEnds ls → net_inside g (λ m. net m ls) ≡ sum_z (share_in g) ls
net_inside_lem g ls e =
    members_ext 64 _ (λ m. sum_z (λ l. only (inside g m) (share m l)) ls) (λ m h. sum_only (inside g m) (share m) ls)
    ∙ members_sum 64 (λ m l. only (inside g m) (share m l)) ls
    ∙ sum_inside g ls e

-- the trust on one line from an outsider to an insider
abbrev trust_in : ℕ → Line → ℤ
trust_in g l = only (not (inside g l.a)) (only (inside g l.b) l.trust_a) +ℤ only (not (inside g l.b)) (only (inside g l.a) l.trust_b)

-- a table that has v at one pair and 0 elsewhere
pub one_pair : (g a b : ℕ) (v : ℤ) → a < 64 → b < 64 → trust_into g (λ i j. only (eqb i a) (only (eqb j b) v)) ≡ only (not (inside g a)) (only (inside g b) v)
one_pair g a b v ha hb =
    members_ext 64 _ (λ i. only (eqb i a) (only (not (inside g i)) (only (inside g b) v))) (λ i h. row i)
    ∙ members_pick 64 a (λ i. only (not (inside g i)) (only (inside g b) v)) ha
  where
    shuffle : (s t e d : Bool) (v : ℤ) → only s (only t (only e (only d v))) ≡ only d (only e (only s (only t v)))
    shuffle true true true d v = refl
    shuffle true true false true v = refl
    shuffle true true false false v = refl
    shuffle true false e true v = elim e as (λ e. pos 0 ≡ only e (pos 0)) [ true ↦ refl | false ↦ refl ]
    shuffle true false e false v = refl
    shuffle false t e true v = elim e as (λ e. pos 0 ≡ only e (pos 0)) [ true ↦ refl | false ↦ refl ]
    shuffle false t e false v = refl

    row : (i : ℕ) → members 64 (λ j. only (not (inside g i)) (only (inside g j) (only (eqb i a) (only (eqb j b) v)))) ≡ only (eqb i a) (only (not (inside g i)) (only (inside g b) v))
    row i =
        members_ext 64 _ (λ j. only (eqb j b) (only (eqb i a) (only (not (inside g i)) (only (inside g j) v)))) (λ j h. shuffle (not (inside g i)) (inside g j) (eqb i a) (eqb j b) v)
        ∙ members_pick 64 b (λ j. only (eqb i a) (only (not (inside g i)) (only (inside g j) v))) hb

pub trust_into_ext : (g : ℕ) (s t : ℕ → ℕ → ℤ) → ((i j : ℕ) → i < 64 → j < 64 → s i j ≡ t i j) → trust_into g s ≡ trust_into g t
trust_into_ext g s t e = members_ext 64 _ _ (λ i hi. members_ext 64 _ _ (λ j hj. ap (λ (v : ℤ). only (not (inside g i)) (only (inside g j) v)) (e i j hi hj)))

pub trust_into_add : (g : ℕ) (s t : ℕ → ℕ → ℤ) → trust_into g (λ i j. s i j +ℤ t i j) ≡ trust_into g s +ℤ trust_into g t
trust_into_add g s t =
    members_ext 64 _ (λ i. members 64 (λ j. only (not (inside g i)) (only (inside g j) (s i j))) +ℤ members 64 (λ j. only (not (inside g i)) (only (inside g j) (t i j)))) (λ i h. row i)
    ∙ members_add 64 (λ i. members 64 (λ j. only (not (inside g i)) (only (inside g j) (s i j)))) (λ i. members 64 (λ j. only (not (inside g i)) (only (inside g j) (t i j))))
  where
    two : (x y : Bool) (a b : ℤ) → only x (only y (a +ℤ b)) ≡ only x (only y a) +ℤ only x (only y b)
    two true y a b = only_add y a b
    two false y a b = refl

    row : (i : ℕ) → members 64 (λ j. only (not (inside g i)) (only (inside g j) (s i j +ℤ t i j))) ≡ members 64 (λ j. only (not (inside g i)) (only (inside g j) (s i j))) +ℤ members 64 (λ j. only (not (inside g i)) (only (inside g j) (t i j)))
    row i =
        members_ext 64 _ (λ j. only (not (inside g i)) (only (inside g j) (s i j)) +ℤ only (not (inside g i)) (only (inside g j) (t i j))) (λ j h. two (not (inside g i)) (inside g j) (s i j) (t i j))
        ∙ members_add 64 (λ j. only (not (inside g i)) (only (inside g j) (s i j))) (λ j. only (not (inside g i)) (only (inside g j) (t i j)))

-- the trust outsiders give insiders, line by line
pub trust_in_lem : (g : ℕ) (ls : List Line) → AllEnds ls → trust_into g (λ i j. trust i j ls) ≡ sum_z (trust_in g) ls
trust_in_lem g [] e = nothing
  where
    none : (s t : Bool) → only s (only t (pos 0)) ≡ pos 0
    none true true = refl
    none true false = refl
    none false t = refl

    nothing : trust_into g (λ i j. pos 0) ≡ pos 0
    nothing = members_ext 64 _ (λ i. pos 0) (λ i h. members_ext 64 _ (λ j. pos 0) (λ j k. none (not (inside g i)) (inside g j)) ∙ members_zero 64) ∙ members_zero 64
trust_in_lem g (l ∷ ls) e =
    trust_into_add g (λ i j. line_trust i j l) (λ i j. trust i j ls)
    ∙ omega (arith, ints, line, trust_in_lem g ls e.1)
  where
    line : trust_into g (λ i j. line_trust i j l) ≡ trust_in g l
    line =
        trust_into_add g (λ i j. only (eqb i l.a) (only (eqb j l.b) l.trust_a)) (λ i j. only (eqb i l.b) (only (eqb j l.a) l.trust_b))
        ∙ omega (arith, ints, one_pair g l.a l.b l.trust_a e.0.0 e.0.1, one_pair g l.b l.a l.trust_b e.0.1 e.0.0)

-- the room of one line
pub line_room_lem : (x y : Bool) (l : Line) → line_room x y l ≡ (only (not x) (only y l.trust_a) +ℤ only (not y) (only x l.trust_b)) +ℤ (only x l.debt -ℤ only y l.debt)
line_room_lem true true l = omega (arith, ints)
line_room_lem true false l = omega (arith, ints)
line_room_lem false true l = omega (arith, ints)
line_room_lem false false l = omega (arith, ints)

pub room_lines : (g : ℕ) (ls : List Line) → room g ls ≡ sum_z (trust_in g) ls +ℤ sum_z (share_in g) ls
room_lines g [] = refl
room_lines g (l ∷ ls) = omega (arith, ints, line_room_lem (inside g l.a) (inside g l.b) l, room_lines g ls)

-- room is trust of outsiders in insiders plus the insiders' nets
pub room_is : (g : ℕ) (ls : List Line) → AllEnds ls → room g ls ≡ trust_into g (λ i j. trust i j ls) +ℤ net_inside g (λ m. net m ls)
room_is g ls e = omega (arith, ints, room_lines g ls, net_inside_lem g ls e, trust_in_lem g ls e)

-- ---- plans
pub net_booked : (m : ℕ) (ls : List Line) (xs : List ℤ) → net m (booked ls xs) ≡ net m ls -ℤ sent m ls xs
net_booked m [] xs = refl
net_booked m (l ∷ ls) [] = omega (arith, ints)
net_booked m (l ∷ ls) (x ∷ xs) = omega (arith, ints, only_sub (eqb m l.a) l.debt x, only_sub (eqb m l.b) l.debt x, net_booked m ls xs)

pub trust_booked : (i j : ℕ) (ls : List Line) (xs : List ℤ) → trust i j (booked ls xs) ≡ trust i j ls
trust_booked i j [] xs = refl
trust_booked i j (l ∷ ls) [] = refl
trust_booked i j (l ∷ ls) (x ∷ xs) = ap (λ (v : ℤ). line_trust i j l +ℤ v) (trust_booked i j ls xs)

pub ends_booked : (ls : List Line) (xs : List ℤ) → AllEnds ls → AllEnds (booked ls xs)
ends_booked [] xs e = tt
ends_booked (l ∷ ls) [] e = e
ends_booked (l ∷ ls) (x ∷ xs) e = (e.0, ends_booked ls xs e.1)

-- a flow costs the payer the amount, brings it to the payee, and moves nobody else
pub flow_net : (ls : List Line) (p q : ℕ) (n : ℤ) (from to : List ℤ) → Flow ls p q n from to → (m : ℕ) → net m (booked ls to) ≡ (net m (booked ls from) -ℤ only (eqb m p) n) +ℤ only (eqb m q) n
flow_net ls p q n from to f m = omega (arith, ints, f m, net_booked m ls from, net_booked m ls to)

-- nets that moved by a payment
pub net_inside_moved : (g p q : ℕ) (n : ℤ) (s t : ℕ → ℤ) → p < 64 → q < 64 → ((m : ℕ) → t m ≡ (s m -ℤ only (eqb m p) n) +ℤ only (eqb m q) n) → net_inside g t ≡ (net_inside g s -ℤ only (inside g p) n) +ℤ only (inside g q) n
net_inside_moved g p q n s t hp hq e =
    members_ext 64 _ (λ m. (only (inside g m) (s m) -ℤ only (eqb m p) (only (inside g m) n)) +ℤ only (eqb m q) (only (inside g m) n)) (λ m h. each m)
    ∙ members_add 64 (λ m. only (inside g m) (s m) -ℤ only (eqb m p) (only (inside g m) n)) (λ m. only (eqb m q) (only (inside g m) n))
    ∙ omega (arith, ints, members_sub 64 (λ m. only (inside g m) (s m)) (λ m. only (eqb m p) (only (inside g m) n)), members_pick 64 p (λ m. only (inside g m) n) hp, members_pick 64 q (λ m. only (inside g m) n) hq)
  where
    spread : (b : Bool) (x y z : ℤ) → only b ((x -ℤ y) +ℤ z) ≡ (only b x -ℤ only b y) +ℤ only b z
    spread true x y z = refl
    spread false x y z = refl

    each : (m : ℕ) → only (inside g m) (t m) ≡ (only (inside g m) (s m) -ℤ only (eqb m p) (only (inside g m) n)) +ℤ only (eqb m q) (only (inside g m) n)
    each m =
        ap (λ (v : ℤ). only (inside g m) v) (e m)
        ∙ omega (arith, ints, spread (inside g m) (s m) (only (eqb m p) n) (only (eqb m q) n), only_swap (inside g m) (eqb m p) n, only_swap (inside g m) (eqb m q) n)

-- a flow lowers the room of each group that holds the payer, and raises that of each that holds the payee
pub flow_room : (g : ℕ) (ls : List Line) (p q : ℕ) (n : ℤ) (from to : List ℤ) → AllEnds ls → p < 64 → q < 64 → Flow ls p q n from to → room g (booked ls to) ≡ (room g (booked ls from) -ℤ only (inside g p) n) +ℤ only (inside g q) n
flow_room g ls p q n from to e hp hq f =
    omega (
      arith,
      ints,
      room_is g (booked ls to) (ends_booked ls to e),
      room_is g (booked ls from) (ends_booked ls from e),
      trust_into_ext g (λ i j. trust i j (booked ls to)) (λ i j. trust i j (booked ls from)) (λ i j hi hj. trust_booked i j ls to ∙ sym (trust_booked i j ls from)),
      net_inside_moved g p q n (λ m. net m (booked ls from)) (λ m. net m (booked ls to)) hp hq (flow_net ls p q n from to f),
    )

line_roomy : (x y : Bool) (l : Line) → roomy l ≡ true → pos 0 ≤ℤ line_room x y l
line_roomy true true l e = omega (arith, ints)
line_roomy true false l e = omega (arith, ints, and_parts (le_z (pos 0) (l.debt +ℤ l.trust_b)) (le_z (pos 0) (l.trust_a -ℤ l.debt)) e)
line_roomy false true l e = omega (arith, ints, and_parts (le_z (pos 0) (l.debt +ℤ l.trust_b)) (le_z (pos 0) (l.trust_a -ℤ l.debt)) e)
line_roomy false false l e = omega (arith, ints)

pub room_not_negative : (g : ℕ) (ls : List Line) → every roomy ls ≡ true → pos 0 ≤ℤ room g ls
room_not_negative g [] e = omega (arith, ints)
room_not_negative g (l ∷ ls) e =
    let h = and_parts (roomy l) (every roomy ls) e in
    omega (arith, ints, line_roomy (inside g l.a) (inside g l.b) l h.0, room_not_negative g ls h.1)

-- from inside to outside a flow takes its amount of the room
pub flow_out : (g : ℕ) (ls : List Line) (p q : ℕ) (n : ℤ) (from to : List ℤ) → AllEnds ls → p < 64 → q < 64 → Flow ls p q n from to → inside g p ≡ true → inside g q ≡ false → room g (booked ls to) ≡ room g (booked ls from) -ℤ n
flow_out g ls p q n from to e hp hq f ip iq =
    let h : room g (booked ls to) ≡ (room g (booked ls from) -ℤ n) +ℤ pos 0 = flow_room g ls p q n from to e hp hq f ∙ rw (ip, iq) in
    omega (arith, ints)

-- weak duality: what is routed fits every group between payer and payee
pub weak_duality : (ls : List Line) (p q : ℕ) (n : ℤ) (entry exit : List ℤ) → AllEnds ls → p < 64 → q < 64 → Flow ls p q n entry exit → fits ls exit ≡ true → (g : ℕ) → inside g p ≡ true → inside g q ≡ false → n ≤ℤ room g (booked ls entry)
weak_duality ls p q n entry exit e hp hq f t g ip iq = omega (arith, ints, flow_out g ls p q n entry exit e hp hq f ip iq, room_not_negative g (booked ls exit) t)
