-- From what a router answered to what the ledger does.
use Rattle.std.proofs.Common.{◌≡◌, ℕ, ◌≤◌, true, false, List, length, replicate, ℤ, pos, IfOk, Some, Ok, Err, Option, subst}
use Rattle.credit.specs.declared.line.Line.{Line}
use Rattle.credit.specs.declared.payment.Payment.{Payment}
use Rattle.credit.specs.Refusals.{Verdict, passes}
use Rattle.credit.specs.Sums.{every}
use Rattle.credit.specs.Net.{bounded}
use Rattle.credit.specs.Plans.{fits}
use Rattle.routing.specs.Meaning.{Routes}
use Rattle.ledger.specs.Checks.{matches}
use Rattle.ledger.specs.Sound.{proper, strained}
use Rattle.ledger.specs.Calls.{blank}
use Rattle.ledger.proofs.Steps.{routed_checked, proper_checked, unstrained_routed, book_routed}

-- a router's answer at the values that a call had
pub served : (ls ls' : List Line) (pay : Payment) (entry : List ℤ) (k : ℕ) (r : Verdict) (exit : List ℤ) → ls ≡ ls' → entry ≡ replicate k (pos 0) → k ≡ 256 → Routes ls pay entry r exit → Routes ls' pay blank r exit
unfolding blank
served ls ls' pay entry k r exit e h w d =
    subst (λ (v : List Line). Routes v pay (replicate 256 (pos 0)) r exit) e
    (subst (λ (v : ℕ). Routes ls pay (replicate v (pos 0)) r exit) w
    (subst (λ (v : List ℤ). Routes ls pay v r exit) h d))

-- what is routed fits, is a payment that can be reserved, and leaves it its room
pub served_fit : (ls : List Line) (pay : Payment) (r : Verdict) (exit : List ℤ) → Routes ls pay blank r exit → IfOk r (λ _. fits ls exit ≡ true)
served_fit ls pay (Ok u) exit d = (routed_checked ls pay blank exit d).1.fit
served_fit ls pay (Err e) exit d = tt

pub served_proper : (ls : List Line) (pay : Payment) (r : Verdict) (exit : List ℤ) → Routes ls pay blank r exit → IfOk r (λ _. proper (Some pay) ≡ true)
served_proper ls pay (Ok u) exit d = proper_checked pay (routed_checked ls pay blank exit d).0
served_proper ls pay (Err e) exit d = tt

pub served_ample : (ls : List Line) (pay : Payment) (r : Verdict) (exit : List ℤ) → every bounded ls ≡ true → Routes ls pay blank r exit → IfOk r (λ _. (g : ℕ) → strained (Some pay) g ls ≡ false)
served_ample ls pay (Ok u) exit b d = unstrained_routed ls pay exit b d
served_ample ls pay (Err e) exit b d = tt

-- what stands is routed
pub served_reserved : (ls : List Line) (st : Option Payment) (pay : Payment) (r : Verdict) (exit : List ℤ) → every bounded ls ≡ true → length ls ≤ 256 → proper st ≡ true → ((g : ℕ) → strained st g ls ≡ false) → matches st pay ≡ true → Routes ls pay blank r exit → Routes ls pay blank passes exit
served_reserved ls st pay r exit b few ok fit h d = subst (λ (v : Verdict). Routes ls pay blank v exit) (book_routed ls st pay b few ok fit h r exit d) d
