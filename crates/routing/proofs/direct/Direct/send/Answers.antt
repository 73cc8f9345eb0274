use Rattle.std.proofs.Common.{◌≡◌, length, set, ℤ, ◌-ℤ◌, ◌≤ℤ◌, ◌<ℤ◌, ap, ◌∙◌, subst, arith, length-set, w32, to_z, of_z}
use Rattle.std.proofs.lemmas.Int.{ints}
use Rattle.credit.specs.declared.payment.Payment.{Payment}
use Rattle.credit.specs.Refusals.{passes}
use Rattle.routing.specs.Meaning.{router_checks}
use Rattle.routing.specs.Direct.{rest_of}
use Rattle.routing.specs.Handing.{Handed}
use Rattle.routing.proofs.Passing.{passed_facts, passed_from}
use Rattle.routing.proofs.Directly.{known, shared_rest, shared_whole, shared_finds}
use Rattle.routing.proofs.direct.Direct.send.Goals as goal

-- the payment of another amount
abbrev of_amount : Payment → ℤ → Payment
of_amount pay n = record { payer = pay.payer; payee = pay.payee; amount = n }

pub put-requires : goal.put-requires
put-requires g c =
    let f = passed_facts c.args.lines.now c.args.payment c.args.plan.now c.requires in
    (known c.args.lines.now c.args.plan.now c.args.payment c.in-Some.share f c.in-Some.ensures).place

pub overflow_sub-rest : goal.overflow_sub-rest
overflow_sub-rest g c =
    let f = passed_facts c.args.lines.now c.args.payment c.args.plan.now c.requires in
    let k = known c.args.lines.now c.args.plan.now c.args.payment c.in-Some.share f c.in-Some.ensures in
    omega (arith, ints, k.low, k.amount, f.high)

pub route_rest-requires : goal.route_rest-requires
route_rest-requires g c =
    let ls = c.args.lines.now in
    let xs = c.args.plan.now in
    let pay = c.args.payment in
    let s = c.in-Some.share in
    let f = passed_facts ls pay xs c.requires in
    let k = known ls xs pay s f c.in-Some.ensures in
    let a : to_z w32 (of_z w32 pay.amount) ≡ pay.amount = omega (arith, ints) in
    let b : to_z w32 (of_z w32 s.part) ≡ s.part = omega (arith, ints, k.low, k.amount, f.high) in
    let d : to_z w32 (of_z w32 (to_z w32 (of_z w32 pay.amount) -ℤ to_z w32 (of_z w32 s.part))) ≡ pay.amount -ℤ s.part = omega (arith, ints, k.low, k.amount, f.high) in
    let less : s.part <ℤ pay.amount = omega (arith, ints, c.if-share-payment.true) in
    let v : router_checks ls (rest_of pay s) (set xs s.place s.after) ≡ passes = passed_from ls (rest_of pay s) (set xs s.place s.after) (k.rest less) in
    record {
      checks = ap (λ t. router_checks ls (of_amount pay t) c.put.new.plan) d ∙ ap (router_checks ls (rest_of pay s)) c.put.ensures ∙ v;
      place = omega (arith, k.place, ap length c.put.ensures, length-set xs s.place s.after);
      part = (k.low, omega (arith, ints, d, f.high));
    }

pub returns-then-share-payment : goal.returns-then-share-payment
returns-then-share-payment g c =
    let ls = c.args.lines.now in
    let xs = c.args.plan.now in
    let pay = c.args.payment in
    let s = c.in-Some.share in
    let r = c.route_rest.result in
    let exit = c.route_rest.new.plan in
    let f = passed_facts ls pay xs c.requires in
    let k = known ls xs pay s f c.in-Some.ensures in
    let b : to_z w32 (of_z w32 s.part) ≡ s.part = omega (arith, ints, k.low, k.amount, f.high) in
    let d : to_z w32 (of_z w32 (to_z w32 (of_z w32 pay.amount) -ℤ to_z w32 (of_z w32 s.part))) ≡ pay.amount -ℤ s.part = omega (arith, ints, k.low, k.amount, f.high) in
    let less : s.part <ℤ pay.amount = omega (arith, ints, c.if-share-payment.true) in
    let t = subst (λ z. Handed ls (rest_of pay s) s z r exit) c.put.ensures (subst (λ z. Handed ls (of_amount pay z) s c.put.new.plan r exit) d c.route_rest.ensures) in
    let h = shared_rest ls xs pay s r exit f c.in-Some.ensures less t in
    record { finds = shared_finds ls xs pay r exit f h; shared = h }

pub returns-else-share-payment : goal.returns-else-share-payment
returns-else-share-payment g c =
    let ls = c.args.lines.now in
    let xs = c.args.plan.now in
    let pay = c.args.payment in
    let s = c.in-Some.share in
    let f = passed_facts ls pay xs c.requires in
    let k = known ls xs pay s f c.in-Some.ensures in
    let b : to_z w32 (of_z w32 s.part) ≡ s.part = omega (arith, ints, k.low, k.amount, f.high) in
    let least : pay.amount ≤ℤ s.part = omega (arith, ints, c.if-share-payment.false) in
    let h = shared_whole ls xs pay s c.put.new.plan c.in-Some.ensures least c.put.ensures in
    record { finds = shared_finds ls xs pay passes c.put.new.plan f h; shared = h }
