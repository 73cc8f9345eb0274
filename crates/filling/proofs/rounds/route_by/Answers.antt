use Rattle.std.proofs.Common.{◌≡◌, ◌^◌, ◌<◌, ℤ, pos, ◌-ℤ◌, ◌≤ℤ◌, Err, ap, ◌∙◌, arith, w32, to_z, of_z, rules}
use Rattle.std.proofs.lemmas.Int.{ints}
use Rattle.credit.specs.declared.refusal.Refusal.TheVariants.{WantOfRoom}
use Rattle.routing.proofs.Passing.{passed_facts}
use Rattle.filling.proofs.Settling.{all_routed, all_tight, taken_back, settles_once}
use Rattle.filling.proofs.rounds.route_by.Goals as goal
use Rattle.filling.proofs.rounds.route_by.Goals.{After-put_back}

-- what was sent, as it is counted
counted : (n left : ℤ) → n ≤ℤ pos 1000000 → pos 1 ≤ℤ left → left ≤ℤ n → to_z w32 (of_z w32 (to_z w32 (of_z w32 n) -ℤ to_z w32 (of_z w32 left))) ≡ n -ℤ left
counted n left h k l = omega (arith, ints)

pub returns-in-Ok-clause-finds : goal.returns-in-Ok-clause-finds
returns-in-Ok-clause-finds c =
    all_routed c.args.lines.now c.args.payment c.args.plan.now (passed_facts c.args.lines.now c.args.payment c.args.plan.now c.requires.checks) c.args.top c.rounds.new.plan c.in-Ok.ensures

-- the refusal, and the plan put back
refused : (c : After-put_back) → WantOfRoom c.in-Err.short.group (to_z w32 (of_z w32 (to_z w32 (of_z w32 c.args.payment.amount) -ℤ to_z w32 (of_z w32 c.in-Err.short.left)))) ≡ WantOfRoom c.in-Err.short.group (c.args.payment.amount -ℤ c.in-Err.short.left)
refused c =
    let p = passed_facts c.args.lines.now c.args.payment c.args.plan.now c.requires.checks in
    ap (λ t. WantOfRoom c.in-Err.short.group t) (counted c.args.payment.amount c.in-Err.short.left p.high c.in-Err.ensures.1 c.in-Err.ensures.2)

back : (c : After-put_back) → c.put_back.new.plan ≡ c.args.plan.now
back c =
    let p = passed_facts c.args.lines.now c.args.payment c.args.plan.now c.requires.checks in
    c.put_back.ensures ∙ taken_back c.args.lines.now c.args.payment c.args.plan.now p c.args.top c.in-Err.short.left c.rounds.new.plan c.as_slice.result.now c.in-Err.ensures.0 (c.as_slice.ensures.value ∙ c.copied-before.ensures)

pub returns-in-Err-clause-finds : goal.returns-in-Err-clause-finds
returns-in-Err-clause-finds c =
    let b = (goal.at.returns-in-Err-clause-finds c).After-put_back in
    let p = passed_facts c.args.lines.now c.args.payment c.args.plan.now c.requires.checks in
    let s = c.in-Err.short in
    let f = c.in-Err.ensures in
    let w : s.group.bits < 2 ^ 64 = search rules in
    (s.group, c.args.payment.amount -ℤ s.left, refused b, all_tight c.args.lines.now c.args.payment c.args.plan.now p c.args.top s.left c.rounds.new.plan s.group.bits w f.0 f.1 f.3, back b)

pub returns-in-Err-clause-settles : goal.returns-in-Err-clause-settles
returns-in-Err-clause-settles c =
    let b = (goal.at.returns-in-Err-clause-settles c).After-put_back in
    (c.in-Err.short.left, c.rounds.new.plan, c.in-Err.short.group, c.in-Err.ensures.0, c.in-Err.ensures.3, refused b, back b)

pub returns-in-Err-clause-once : goal.returns-in-Err-clause-once
returns-in-Err-clause-once c one =
    settles_once c.args.lines.now c.args.payment c.args.top c.args.plan.now (Err _) c.put_back.new.plan one (returns-in-Err-clause-settles c)
