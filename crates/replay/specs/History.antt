-- What the calls and answers of a run tell by themselves: the trusts that were set, and what payments brought and cost.
use Rattle.std.specs.Prelude.{ℕ, zero, suc, cond, ◌&&◌, List, [], ◌∷◌, ℤ, pos, ◌+ℤ◌, ◌-ℤ◌, ◌==◌}
use Rattle.credit.specs.declared.payment.Payment.{Payment}
use Rattle.credit.specs.Sums.{only}
use Rattle.calls.specs.declared.call.Call.{Call}
use Rattle.calls.specs.declared.call.Call.TheVariants.{Open, Pay, Reserve, Book, Release, Begin, End, Abandon, Tidy}
use Rattle.replay.specs.Runs.{Turn, Reply, done, reserved, released, kept, undone, refused, reply}

-- ---- trusts
-- how far i trusts j once a line is opened, if the call was accepted
abbrev pub trust_opened : ℕ → ℕ → ℤ → ℤ → Reply → ℕ → ℕ → ℤ → ℤ
trust_opened x y t u done i j before = cond (i == x && j == y) t (cond (i == y && j == x) u before)
trust_opened x y t u (reserved pay) i j before = before
trust_opened x y t u (released b) i j before = before
trust_opened x y t u kept i j before = before
trust_opened x y t u undone i j before = before
trust_opened x y t u (refused e) i j before = before

abbrev pub trust_by : Call → Reply → ℕ → ℕ → ℤ → ℤ
trust_by (Open x y t u) r i j before = trust_opened x y t u r i j before
trust_by (Pay k pay) r i j before = before
trust_by (Reserve k pay) r i j before = before
trust_by (Book k pay) r i j before = before
trust_by (Release pay) r i j before = before
trust_by Begin r i j before = before
trust_by End r i j before = before
trust_by Abandon r i j before = before
trust_by Tidy r i j before = before

-- how far i trusts j: as the last accepted call to set it gave it, 0 where none did
abbrev pub trust_set : List Turn → ℕ → ℕ → ℤ
trust_set [] i j = pos 0
trust_set (t ∷ ts) i j = trust_by t.call (reply t.answer) i j (trust_set ts i j)

-- ---- payments
-- what a call and its answer mean for payments
pub data Event : Type 0 where
  pays : Payment → Event
  begins : Event
  keeps : Event
  undoes : Event
  other : Event

abbrev pub if_done : Reply → Event → Event
if_done done v = v
if_done (reserved pay) v = other
if_done (released b) v = other
if_done kept v = other
if_done undone v = other
if_done (refused e) v = other

abbrev pub closing : Reply → Event
closing done = other
closing (reserved pay) = other
closing (released b) = other
closing kept = keeps
closing undone = undoes
closing (refused e) = other

abbrev pub event : Call → Reply → Event
event (Open x y t u) r = other
event (Pay k pay) r = if_done r (pays pay)
event (Reserve k pay) r = other
event (Book k pay) r = if_done r (pays pay)
event (Release pay) r = other
event Begin r = if_done r begins
event End r = closing r
event Abandon r = closing r
event Tidy r = other

-- What payments brought a member less what they cost it. Going back from the newest call, a payment counts unless it
-- lies between the close of an undone group and the begin of that group: depth is the number of begins still to be met.
abbrev pub tally_by : Event → ℕ → ℕ → (ℕ → ℤ) → ℤ
tally_by (pays pay) m zero earlier = (earlier zero -ℤ only (m == pay.payer) pay.amount) +ℤ only (m == pay.payee) pay.amount
tally_by (pays pay) m (suc depth) earlier = earlier (suc depth)
tally_by begins m zero earlier = earlier zero
tally_by begins m (suc depth) earlier = earlier depth
tally_by keeps m zero earlier = earlier zero
tally_by keeps m (suc depth) earlier = earlier (suc (suc depth))
tally_by undoes m zero earlier = earlier (suc zero)
tally_by undoes m (suc depth) earlier = earlier (suc (suc depth))
tally_by other m depth earlier = earlier depth

abbrev pub tally : ℕ → List Turn → ℕ → ℤ
tally m [] depth = pos 0
tally m (t ∷ ts) depth = tally_by (event t.call (reply t.answer)) m depth (tally m ts)
