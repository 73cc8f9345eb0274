-- What one call answers and leaves, served by any router that keeps the meaning.
use Rattle.std.specs.Prelude.{◌≡◌, ℕ, Bool, true, false, cond, not, ◌||◌, List, [], ◌∷◌, ◌++◌, replicate, ℤ, pos, Some, None, Ok, Err, ◌==◌, nat_lt}
use Rattle.credit.specs.declared.line.Line.{Line}
use Rattle.credit.specs.declared.payment.Payment.{Payment}
use Rattle.credit.specs.declared.refusal.Refusal.{Refusal}
use Rattle.credit.specs.Refusals.{Verdict, passes, number_of}
use Rattle.credit.specs.Plans.{booked}
use Rattle.routing.specs.Meaning.{Routes}
use Rattle.rings.specs.Rings.{Tidied}
use Rattle.calls.specs.declared.call.Call.{Call}
use Rattle.calls.specs.declared.call.Call.TheVariants.{Open, Pay, Reserve, Book, Release, Begin, End, Abandon, Tidy}
use Rattle.calls.specs.declared.call.Answer.{Answer}
use Rattle.calls.specs.declared.call.Answer.TheVariants.{Done, Reserved, Released, Kept, Undone, Refused}
use Rattle.ledger.specs.Debts.{debts, with_debts}
use Rattle.ledger.specs.States.{OpenGroup, State, with_lines, with_groups, with_standing}
use Rattle.ledger.specs.Checks.{inmost_spoiled, matches, pay_checks, book_checks, open_checks, begin_checks, close_checks}

-- a plan sheet of 256 zeros
unfoldable pub blank : List ℤ
blank = replicate 256 (pos 0)

-- ---- what a call leaves
abbrev pub new_line : ℕ → ℕ → ℤ → ℤ → Line
new_line x y t u =
    cond (nat_lt x y)
    (record { a = x; b = y; trust_a = t; trust_b = u; debt = pos 0 })
    (record { a = y; b = x; trust_a = u; trust_b = t; debt = pos 0 })

abbrev pub opened : State → ℕ → ℕ → ℤ → ℤ → State
opened s x y t u = with_lines s (s.lines ++ (new_line x y t u ∷ []))

-- the group begun inside a spoiled one is spoiled from the start
abbrev pub begun : State → State
begun s = with_groups s (record { saved = debts s.lines; spoiled = inmost_spoiled s.groups } ∷ s.groups)

-- the inmost group closed, its payments kept or every debt put back as at its begin
abbrev pub closed : State → List OpenGroup → Bool → State
closed s [] keep = s
closed s (g ∷ gs) keep = record { lines = cond keep s.lines (with_debts s.lines g.saved); groups = gs; standing = s.standing }

-- a payment refused so spoils the inmost group
abbrev pub spoils : Refusal → Bool
spoils e = number_of e == 5 || (number_of e == 6 || (number_of e == 7 || number_of e == 16))

abbrev pub spoil_inmost : List OpenGroup → List OpenGroup
spoil_inmost [] = []
spoil_inmost (g ∷ gs) = record { saved = g.saved; spoiled = true } ∷ gs

abbrev pub after_refusal : Refusal → State → State
after_refusal e s = cond (spoils e) (with_groups s (spoil_inmost s.groups)) s

-- ---- one call
-- what a router's answer and plan make of a payment
abbrev pub Paid : Verdict → List ℤ → State → Answer → State → Type 0
Paid (Ok u) plan s r s' = (r ≡ Done) × (s' ≡ with_lines s (booked s.lines plan))
Paid (Err e) plan s r s' = (r ≡ Refused e) × (s' ≡ after_refusal e s)

abbrev pub Pays : Verdict → State → Payment → Answer → State → Type 0
Pays (Err e) s pay r s' = (r ≡ Refused e) × (s' ≡ after_refusal e s)
Pays (Ok u) s pay r s' = (v : Verdict) × (plan : List ℤ) × Routes s.lines pay blank v plan × Paid v plan s r s'

abbrev pub Held : Verdict → Payment → State → Answer → State → Type 0
Held (Ok u) pay s r s' = (r ≡ Reserved pay) × (s' ≡ with_standing s (Some pay))
Held (Err e) pay s r s' = (r ≡ Refused e) × (s' ≡ s)

abbrev pub Reserves : Verdict → State → Payment → Answer → State → Type 0
Reserves (Err e) s pay r s' = (r ≡ Refused e) × (s' ≡ s)
Reserves (Ok u) s pay r s' = (v : Verdict) × (plan : List ℤ) × Routes s.lines pay blank v plan × Held v pay s r s'

-- a booking past its checks never lacks room
abbrev pub Books : Verdict → State → Payment → Answer → State → Type 0
Books (Err e) s pay r s' = (r ≡ Refused e) × (s' ≡ s)
Books (Ok u) s pay r s' =
    (plan : List ℤ) × Routes s.lines pay blank passes plan × (r ≡ Done) × (s' ≡ with_standing (with_lines s (booked s.lines plan)) None)

-- a refusal that leaves all as it was, or one answer and one state
abbrev pub Plain : Verdict → State → Answer → State → Answer → State → Type 0
Plain (Err e) s good after r s' = (r ≡ Refused e) × (s' ≡ s)
Plain (Ok u) s good after r s' = (r ≡ good) × (s' ≡ after)

-- the state before, the call, the answer and the state after
abbrev pub Does : State → Call → Answer → State → Type 0
Does s (Open x y t u) r s' = Plain (open_checks s x y t u) s Done (opened s x y t u) r s'
Does s (Pay k pay) r s' = Pays (pay_checks s k pay) s pay r s'
Does s (Reserve k pay) r s' = Reserves (pay_checks s k pay) s pay r s'
Does s (Book k pay) r s' = Books (book_checks s k pay) s pay r s'
Does s (Release pay) r s' = (r ≡ Released (matches s.standing pay)) × (s' ≡ cond (matches s.standing pay) (with_standing s None) s)
Does s Begin r s' = Plain (begin_checks s) s Done (begun s) r s'
Does s End r s' = Plain (close_checks s) s (cond (inmost_spoiled s.groups) Undone Kept) (closed s s.groups (not (inmost_spoiled s.groups))) r s'
Does s Abandon r s' = Plain (close_checks s) s Undone (closed s s.groups false) r s'
Does s Tidy r s' = (r ≡ Done) × (ls : List Line) × Tidied s.lines ls × (s' ≡ with_lines s ls)
