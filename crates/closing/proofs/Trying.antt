-- A reservation that is released at once.
use Rattle.std.proofs.Common.{◌≡◌, Bool, true, Some, refl, ap, ◌∙◌, subst, arith}
use lib.Signed.{le_z}
use Rattle.std.proofs.lemmas.Int.{ints}
use Rattle.std.proofs.lemmas.Bool.{eq-eqb}
use Rattle.credit.specs.declared.payment.Payment.{Payment}
use Rattle.credit.proofs.Bounds.{le_z_test}
use Rattle.calls.specs.declared.call.Call.TheVariants.{Reserve, Release}
use Rattle.calls.specs.declared.call.Answer.TheVariants.{Reserved, Released}
use Rattle.ledger.specs.States.{State}
use Rattle.ledger.specs.Checks.{matches}
use Rattle.ledger.specs.Calls.{Does}
use Rattle.replay.proofs.Holding.{reserve_accepted}
use Rattle.batch.specs.declared.form.Form.TheVariants.{Try}
use Rattle.closing.specs.Carries.{Serves}

matches_self : (pay : Payment) → matches (Some pay) pay ≡ true
matches_self pay =
    let e : le_z pay.amount pay.amount ≡ true = le_z_test pay.amount pay.amount (omega (arith, ints)) in
    simp (eq-eqb pay.payer pay.payer refl, eq-eqb pay.payee pay.payee refl, e)

pub tried : (s t s' : State) (pay x : Payment) (b : Bool)
    → Does s (Reserve 256 pay) (Reserved x) t → Does t (Release x) (Released b) s' → Serves s (Try pay) (Reserved pay) s'
tried s t s' pay x b d e =
    let a = reserve_accepted s 256 pay x t d in
    let released : Does t (Release pay) (Released b) s' = subst (λ y. Does t (Release y) (Released b) s') a.same e in
    let stood : b ≡ true = (let z : b ≡ matches t.standing pay = cc released.0 in z) ∙ ap (λ w. matches w pay) a.now ∙ matches_self pay in
    (t, subst (λ y. Does s (Reserve 256 pay) (Reserved y) t) a.same d, subst (λ y. Does t (Release pay) (Released y) s') stood released)
