-- What is known where a remembered group refuses.
use Rattle.std.proofs.Common.{◌≡◌, ℕ, ◌^◌, ◌<◌, Bool, true, false, cond, not, ◌&&◌, List, ℤ, ◌<ℤ◌, Some, None, Err, refl, arith}
use lib.Signed.{lt_z}
use Rattle.std.proofs.lemmas.Int.{ints}
use Rattle.std.proofs.lemmas.Bool.{and_parts, not-true}
use Rattle.members.specs.declared.group.Group.{Group}
use Rattle.members.specs.Groups.{inside}
use Rattle.credit.specs.declared.line.Line.{Line}
use Rattle.credit.specs.declared.payment.Payment.{Payment}
use Rattle.credit.specs.declared.refusal.Refusal.{Refusal}
use Rattle.credit.specs.declared.refusal.Refusal.TheVariants.{WantOfRoom}
use Rattle.credit.specs.Rooms.{room}
use Rattle.credit.specs.Plans.{booked}
use Rattle.routing.specs.Meaning.{Finds}
use Rattle.routing.specs.Kept.{tight, refusal_by}

-- a group that refuses is too tight
pub refuses : (ls : List Line) (pay : Payment) (xs : List ℤ) (g : Group) (e : Refusal) → g.bits < 2 ^ 64 → Some e ≡ refusal_by ls pay xs g → Finds ls pay xs (Err e) xs
refuses ls pay xs g e word h = by (tight ls pay xs g) refl h
  where
    by : (b : Bool) → tight ls pay xs g ≡ b → Some e ≡ cond b (Some (WantOfRoom g (room g.bits (booked ls xs)))) None → Finds ls pay xs (Err e) xs
    by true t h =
        let named : e ≡ WantOfRoom g (room g.bits (booked ls xs)) = cc in
        let a = and_parts (inside g.bits pay.payer) (not (inside g.bits pay.payee) && lt_z (room g.bits (booked ls xs)) pay.amount) t in
        let b = and_parts (not (inside g.bits pay.payee)) (lt_z (room g.bits (booked ls xs)) pay.amount) a.1 in
        let less : room g.bits (booked ls xs) <ℤ pay.amount = omega (arith, ints, b.1) in
        (g, room g.bits (booked ls xs), named, record { word = word; payer = a.0; payee = not-true (inside g.bits pay.payee) b.0; has = refl; less = less }, refl)
    by false t h = let z : ◌≡◌ {A = ℕ} 0 1 = cc in absurd (omega arith)
