-- Plans, flows, and the lines once a plan is booked. A plan number x moves x from a to b on its line.
use Rattle.std.specs.Prelude.{◌≡◌, ℕ, Bool, cond, ◌&&◌, List, [], ◌∷◌, ℤ, pos, ◌+ℤ◌, ◌-ℤ◌, ◌==◌, int_le}
use Rattle.credit.specs.declared.line.Line.{Line}
use Rattle.credit.specs.Sums.{only, every}
use Rattle.credit.specs.Rooms.{room_onward, room_back}

-- a line with another debt
abbrev pub with_debt : Line → ℤ → Line
with_debt l d = record { a = l.a; b = l.b; trust_a = l.trust_a; trust_b = l.trust_b; debt = d }

-- a line once x is moved from a to b
abbrev pub moved : Line → ℤ → Line
moved l x = with_debt l (l.debt -ℤ x)

-- the lines once a plan is booked. A line without a place in the plan stays; rooms after a plan are the rooms of these
abbrev pub booked : List Line → List ℤ → List Line
booked [] xs = []
booked (l ∷ ls) [] = l ∷ ls
booked (l ∷ ls) (x ∷ xs) = moved l x ∷ booked ls xs

-- what a member sends out under a plan, less what it takes in
abbrev pub sent : ℕ → List Line → List ℤ → ℤ
sent m [] xs = pos 0
sent m (l ∷ ls) [] = pos 0
sent m (l ∷ ls) (x ∷ xs) = (only (m == l.a) x -ℤ only (m == l.b) x) +ℤ sent m ls xs

-- The change from one plan to another is a flow: the payer sends out the amount more than it takes in, the payee takes
-- in the amount more, and everybody else evens out.
abbrev pub Flow : List Line → (payer payee : ℕ) → ℤ → (from to : List ℤ) → Type 0
Flow ls payer payee amount from to =
    (m : ℕ) → sent m ls to ≡ (sent m ls from +ℤ only (m == payer) amount) -ℤ only (m == payee) amount

-- neither room of a line is negative
abbrev pub roomy : Line → Bool
roomy l = int_le (pos 0) (room_onward l) && int_le (pos 0) (room_back l)

-- no room is negative under a plan
abbrev pub fits : List Line → List ℤ → Bool
fits ls plan = every roomy (booked ls plan)

-- the plan number of a line once n more is moved from the member p over it
abbrev pub sent_from : Line → ℕ → ℤ → ℤ → ℤ
sent_from l p x n = cond (l.a == p) (x +ℤ n) (x -ℤ n)

-- a line's room from the member p to its other end
abbrev pub room_from : Line → ℕ → ℤ
room_from l p = cond (l.a == p) (room_onward l) (room_back l)
