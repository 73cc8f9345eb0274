-- What is known once a router's checks are passed.
use Rattle.std.proofs.Common.{◌≡◌, ℕ, ◌<◌, ◌≤◌, Bool, true, false, not, ◌&&◌, eqb, ltb, leb, ◌≢◌, List, length, ℤ, pos, ◌≤ℤ◌, ap, ◌∙◌, arith}
use lib.Signed.{le_z}
use Rattle.std.proofs.lemmas.Bool.Decides.{nat_tests}
use Rattle.std.proofs.lemmas.Bool.{and_parts, not-false, ltb-true, leb-true, eqb-false, ne_eqb, le-leb}
use Rattle.credit.specs.declared.line.Line.{Line}
use Rattle.credit.specs.declared.payment.Payment.{Payment}
use Rattle.credit.specs.declared.refusal.Refusal.TheVariants.{NoSuchMember, SameMember, OutOfRange, BadPlanSheet}
use Rattle.credit.specs.Refusals.{passes, check}
use Rattle.credit.specs.Sums.{every}
use Rattle.credit.specs.Net.{bounded}
use Rattle.credit.specs.Plans.{fits}
use Rattle.credit.proofs.Bounds.{le_z_order, le_z_test}
use Rattle.credit.proofs.Tables.{check_passes}
use Rattle.routing.specs.Meaning.{router_checks, usable, not_members, not_amount}

pub record Passed (ls : List Line) (pay : Payment) (xs : List ℤ) : Type 0 where
  pub payer : pay.payer < 64
  pub payee : pay.payee < 64
  pub apart : pay.payer ≢ pay.payee
  pub low : pos 1 ≤ℤ pay.amount
  pub high : pay.amount ≤ℤ pos 1000000
  pub few : length ls ≤ 256
  pub sound : every bounded ls ≡ true
  pub long : length ls ≤ length xs
  pub fit : fits ls xs ≡ true

pub passed_facts : (ls : List Line) (pay : Payment) (xs : List ℤ) → router_checks ls pay xs ≡ passes → Passed ls pay xs
passed_facts ls pay xs h =
    let a = check_passes (not_members pay.payer pay.payee) NoSuchMember _ h in
    let b = check_passes (eqb pay.payer pay.payee) SameMember _ a.1 in
    let c = check_passes (not_amount pay.amount) OutOfRange _ b.1 in
    let d = check_passes (not (usable ls xs)) BadPlanSheet _ c.1 in
    let m = and_parts (ltb pay.payer 64) (ltb pay.payee 64) (not-false _ a.0) in
    let r = and_parts (le_z (pos 1) pay.amount) (le_z pay.amount (pos 1000000)) (not-false _ c.0) in
    let u = and_parts (leb (length ls) 256) _ (not-false _ d.0) in
    let v = and_parts (every bounded ls) _ u.1 in
    let w = and_parts (leb (length ls) (length xs)) (fits ls xs) v.1 in
    record {
      payer = ltb-true pay.payer 64 m.0;
      payee = ltb-true pay.payee 64 m.1;
      apart = eqb-false pay.payer pay.payee b.0;
      low = le_z_order (pos 1) pay.amount r.0;
      high = le_z_order pay.amount (pos 1000000) r.1;
      few = leb-true (length ls) 256 u.0;
      sound = v.0;
      long = leb-true (length ls) (length xs) w.0;
      fit = w.1;
    }

members_from_lem : (p q : ℕ) → p < 64 → q < 64 → not_members p q ≡ false
members_from_lem p q h k = grind (arith, nat_tests)

amount_from : (n : ℤ) → le_z (pos 1) n ≡ true → le_z n (pos 1000000) ≡ true → not_amount n ≡ false
amount_from n h k = rw (h, k)

four : (a b c d : Bool) → a ≡ true → b ≡ true → c ≡ true → d ≡ true → not (a && (b && (c && d))) ≡ false
four a b c d h k l m = rw (h, k, l, m)

pub passed_from : (ls : List Line) (pay : Payment) (xs : List ℤ) → Passed ls pay xs → router_checks ls pay xs ≡ passes
passed_from ls pay xs f =
    let u = four (leb (length ls) 256) (every bounded ls) (leb (length ls) (length xs)) (fits ls xs) (le-leb _ _ f.few) f.sound (le-leb _ _ f.long) f.fit in
    ap (λ t. check t NoSuchMember (check (eqb pay.payer pay.payee) SameMember (check (not_amount pay.amount) OutOfRange (check (not (usable ls xs)) BadPlanSheet passes)))) (members_from_lem pay.payer pay.payee f.payer f.payee)
    ∙ ap (λ t. check t SameMember (check (not_amount pay.amount) OutOfRange (check (not (usable ls xs)) BadPlanSheet passes))) (ne_eqb pay.payer pay.payee f.apart)
    ∙ ap (λ t. check t OutOfRange (check (not (usable ls xs)) BadPlanSheet passes)) (amount_from pay.amount (le_z_test (pos 1) pay.amount f.low) (le_z_test pay.amount (pos 1000000) f.high))
    ∙ ap (λ t. check t BadPlanSheet passes) u
