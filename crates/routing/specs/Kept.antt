-- What Kept does beyond the meaning of every router: which groups it remembers, and when one of them refuses.
use Rattle.std.specs.Prelude.{◌≡◌, Bool, cond, not, ◌&&◌, List, [], ◌∷◌, take, ℤ, Some, None, Ok, Err, Option, int_lt}
use Rattle.lists.specs.Lists.{listed}
use Rattle.members.specs.declared.group.Group.{Group}
use Rattle.members.specs.Groups.{inside}
use Rattle.credit.specs.declared.line.Line.{Line}
use Rattle.credit.specs.declared.payment.Payment.{Payment}
use Rattle.credit.specs.declared.refusal.Refusal.{Refusal}
use Rattle.credit.specs.declared.refusal.Refusal.TheVariants.{WantOfRoom}
use Rattle.credit.specs.Refusals.{Verdict}
use Rattle.credit.specs.Rooms.{room}
use Rattle.credit.specs.Plans.{booked}
use Rattle.routing.specs.Meaning.{router_checks, Routes}
use Rattle.routing.specs.declared.memory.Memory.{Memory}

-- the groups that are remembered, the newest first
abbrev pub remembered : Memory → List Group
remembered m = listed m.groups

-- the groups once one more is named: it is the newest, and at most eight are remembered
abbrev pub noted : Group → List Group → List Group
noted g gs = take 8 (g ∷ gs)

-- the group holds the payer and lacks the payee, and its room, counted with these lines and this plan, is too little
abbrev pub tight : List Line → Payment → List ℤ → Group → Bool
tight ls pay plan g = inside g.bits pay.payer && (not (inside g.bits pay.payee) && int_lt (room g.bits (booked ls plan)) pay.amount)

-- the refusal by a group that is tight
abbrev pub refusal_by : List Line → Payment → List ℤ → Group → Option Refusal
refusal_by ls pay plan g = cond (tight ls pay plan g) (Some (WantOfRoom g (room g.bits (booked ls plan)))) None

-- the one refusal, or else the other
abbrev pub or_else : Option Refusal → Option Refusal → Option Refusal
or_else (Some e) o = Some e
or_else None o = o

-- the refusal by the first of the groups that is tight
abbrev pub recalled : List Line → Payment → List ℤ → List Group → Option Refusal
recalled ls pay plan [] = None
recalled ls pay plan (g ∷ gs) = or_else (refusal_by ls pay plan g) (recalled ls pay plan gs)

-- where the router below named a group, it is remembered
abbrev pub Notes : Verdict → List Group → List Group → Type 0
Notes (Ok u) before after = after ≡ before
Notes (Err e) before after = (g : Group) × (w : ℤ) × (e ≡ WantOfRoom g w) × (after ≡ noted g before)

-- a remembered group refuses, or the router below decides
abbrev pub Recalls : Option Refusal → List Line → Payment → List ℤ → List Group → Verdict → List ℤ → List Group → Type 0
Recalls (Some e) ls pay entry before r exit after = (r ≡ Err e) × (exit ≡ entry) × (after ≡ before)
Recalls None ls pay entry before r exit after = Routes ls pay entry r exit × Notes r before after

-- the first refusal that applies, which leaves all as it was; or past the checks
abbrev pub Minds : Verdict → List Line → Payment → List ℤ → List Group → Verdict → List ℤ → List Group → Type 0
Minds (Err e) ls pay entry before r exit after = (r ≡ Err e) × (exit ≡ entry) × (after ≡ before)
Minds (Ok u) ls pay entry before r exit after = Recalls (recalled ls pay entry before) ls pay entry before r exit after

-- a router that remembers groups: before are those that it remembers at entry, after those at exit
abbrev pub Keeps : List Line → Payment → List ℤ → List Group → Verdict → List ℤ → List Group → Type 0
Keeps ls pay entry before r exit after = Minds (router_checks ls pay entry) ls pay entry before r exit after
