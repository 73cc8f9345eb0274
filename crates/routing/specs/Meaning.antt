-- What every router means: the answers routed, want of room and refusal, over lines, a payment, the plan at entry and
-- the plan at exit.
use Rattle.std.specs.Prelude.{◌≡◌, ℕ, ◌^◌, ◌<◌, Bool, true, false, not, ◌&&◌, List, length, drop, ℤ, pos, ◌<ℤ◌, Ok, Err, ◌==◌, int_le, nat_le, nat_lt}
use Rattle.members.specs.declared.group.Group.{Group}
use Rattle.members.specs.Groups.{inside}
use Rattle.credit.specs.declared.line.Line.{Line}
use Rattle.credit.specs.declared.payment.Payment.{Payment}
use Rattle.credit.specs.declared.refusal.Refusal.TheVariants.{NoSuchMember, SameMember, OutOfRange, WantOfRoom, BadPlanSheet}
use Rattle.credit.specs.Refusals.{Verdict, passes, check}
use Rattle.credit.specs.Sums.{every}
use Rattle.credit.specs.Net.{bounded}
use Rattle.credit.specs.Rooms.{room}
use Rattle.credit.specs.Plans.{booked, Flow, fits}

-- one of the two is no member
abbrev pub not_members : ℕ → ℕ → Bool
not_members p q = not (nat_lt p 64 && nat_lt q 64)

-- an amount is 1 to 1,000,000
abbrev pub not_amount : ℤ → Bool
not_amount n = not (int_le (pos 1) n && int_le n (pos 1000000))

-- the refusals of two members, in order
abbrev pub pair_checks : ℕ → ℕ → Verdict
pair_checks x y = check (not_members x y) NoSuchMember (check (x == y) SameMember passes)

-- the refusals of members and amount, in order, and then the rest of a table
abbrev pub payment_checks : Payment → Verdict → Verdict
payment_checks pay rest = check (not_members pay.payer pay.payee) NoSuchMember (check (pay.payer == pay.payee) SameMember (check (not_amount pay.amount) OutOfRange rest))

-- lines and plan that a router takes: at most 256 lines, each within its bounds, a place for each, no room negative
abbrev pub usable : List Line → List ℤ → Bool
usable ls plan = nat_le (length ls) 256 && (every bounded ls && (nat_le (length ls) (length plan) && fits ls plan))

-- the refusals of a router, in order
abbrev pub router_checks : List Line → Payment → List ℤ → Verdict
router_checks ls pay plan = payment_checks pay (check (not (usable ls plan)) BadPlanSheet passes)

-- the plan at exit carries the amount: a flow more than at entry, with no room negative; the places behind the last line
-- are as they were
pub record Routed (ls : List Line) (pay : Payment) (entry exit : List ℤ) : Type 0 where
  pub flow : Flow ls pay.payer pay.payee pay.amount entry exit
  pub fit : fits ls exit ≡ true
  pub long : length exit ≡ length entry
  pub behind : drop (length ls) exit ≡ drop (length ls) entry

-- the group holds the payer and lacks the payee, and its room after the entry plan is w, less than the amount
pub record Tight (ls : List Line) (pay : Payment) (entry : List ℤ) (g : ℕ) (w : ℤ) : Type 0 where
  pub word : g < 2 ^ 64
  pub payer : inside g pay.payer ≡ true
  pub payee : inside g pay.payee ≡ false
  pub has : w ≡ room g (booked ls entry)
  pub less : w <ℤ pay.amount

-- past the checks a router routes, or names a group that is too tight and leaves the plan as it was
abbrev pub Finds : List Line → Payment → List ℤ → Verdict → List ℤ → Type 0
Finds ls pay entry (Ok u) exit = Routed ls pay entry exit
Finds ls pay entry (Err e) exit = (g : Group) × (w : ℤ) × (e ≡ WantOfRoom g w) × Tight ls pay entry g.bits w × (exit ≡ entry)

-- the first refusal that applies, and the plan as it was; or what the router finds
abbrev pub Unless : Verdict → List Line → Payment → List ℤ → Verdict → List ℤ → Type 0
Unless (Err e) ls pay entry r exit = (r ≡ Err e) × (exit ≡ entry)
Unless (Ok u) ls pay entry r exit = Finds ls pay entry r exit

-- a router's answer and exit plan to lines, payer, payee, amount and entry plan
abbrev pub Routes : List Line → Payment → List ℤ → Verdict → List ℤ → Type 0
Routes ls pay entry r exit = Unless (router_checks ls pay entry) ls pay entry r exit
