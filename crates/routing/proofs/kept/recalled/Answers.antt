use Rattle.std.proofs.Common.{◌≡◌, ◌+◌, ◌^◌, ◌<◌, get_or, drop, None, sym, ap, ◌∙◌, arith, rules}
use Rattle.std.proofs.lemmas.List.{at_drop_more, at_drop_all}
use Rattle.members.specs.declared.group.Group.{Group}
use Rattle.routing.specs.Kept.{recalled, refusal_by, or_else}
use Rattle.routing.proofs.Memories.{refuses}
use Rattle.routing.proofs.kept.recalled.Goals as goal

abbrev none : Group
none = record { bits = 0 }

pub returns-in-Some : goal.returns-in-Some
returns-in-Some c =
    let ls = c.args.lines.now in
    let xs = c.args.plan.now in
    let pay = c.args.payment in
    let gs = c.args.groups.now in
    let i = c.loop-group.group-index in
    let word : (get_or gs i none).bits < 2 ^ 64 = search rules in
    let e = c.in-Some.ensures in
    record {
      value = ap (λ o. or_else o (recalled ls pay xs (drop (i + 1) gs))) e
          ∙ sym (at_drop_more (recalled ls pay xs) gs i none c.loop-group-test.true)
          ∙ c.loop-group.invariant;
      finds = refuses ls pay xs (get_or gs i none) c.in-Some.refusal word e;
    }

pub loop-group-preserved : goal.loop-group-preserved
loop-group-preserved c =
    let ls = c.args.lines.now in
    let xs = c.args.plan.now in
    let pay = c.args.payment in
    let gs = c.args.groups.now in
    let i = c.loop-group.group-index in
    let e : None ≡ refusal_by ls pay xs (get_or gs i none) = c.in_default.ensures in
    ap (λ o. or_else o (recalled ls pay xs (drop (i + 1) gs))) e
    ∙ sym (at_drop_more (recalled ls pay xs) gs i none c.loop-group-test.true)
    ∙ c.loop-group.invariant

pub returns : goal.returns
returns c =
    record {
      value = sym (at_drop_all (recalled c.args.lines.now c.args.payment c.args.plan.now) c.args.groups.now c.loop-group.group-index (omega arith)) ∙ c.loop-group.invariant;
      finds = search rules;
    }
