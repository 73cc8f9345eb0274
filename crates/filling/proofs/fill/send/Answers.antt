use Rattle.std.proofs.Common.{get_or, set, pos, neg_ℤ, ◌≤ℤ◌, sym, ap, ◌∙◌, subst, arith, w32, SFits, to_z, of_z, rules}
use Rattle.std.proofs.lemmas.Int.{ints, to_z-of_z}
use Rattle.std.proofs.lemmas.List.{get_or-set_other}
use Rattle.credit.specs.Net.{no_line}
use Rattle.credit.specs.Plans.{sent_from}
use Rattle.filling.specs.Fillings.{no_hop, sent_over}
use Rattle.filling.proofs.Along.{along_more}
use Rattle.filling.proofs.Filled.{usable_facts, number_bounds}
use Rattle.filling.proofs.fill.send.Goals as goal

pub planned_after-requires : goal.planned_after-requires
planned_after-requires c =
    let ls = c.args.lines.now in
    let xs = c.args.plan.now in
    let p = (get_or c.args.hops.now c.loop-hop.hop-index no_hop).place in
    let b = number_bounds ls xs p (usable_facts ls xs c.requires.usable) (c.requires.within c.loop-hop.hop-index no_hop c.loop-hop-test.true) in
    let e = c.loop-hop.invariant.ahead c.loop-hop.hop-index (omega arith) c.loop-hop-test.true in
    let v = get_or c.loop-hop.plan p (pos 0) in
    let low : neg_ℤ (pos 2000000) ≤ℤ v = subst (λ t. neg_ℤ (pos 2000000) ≤ℤ t) (sym e) b.0 in
    let high : v ≤ℤ pos 2000000 = subst (λ t. t ≤ℤ pos 2000000) (sym e) b.1 in
    record { low = (omega (arith, ints), omega (arith, ints)); high = (omega (arith, ints), omega (arith, ints)) }

pub loop-hop-preserved : goal.loop-hop-preserved
loop-hop-preserved c =
    let i = c.loop-hop.hop-index in
    let h = get_or c.args.hops.now i no_hop in
    let v = get_or c.loop-hop.plan h.place (pos 0) in
    let fr : SFits w32 c.planned_after.result = search rules in
    let fv : SFits w32 v = search rules in
    let x = to_z w32 (of_z w32 c.args.x) in
    record {
      sent =
          ap (λ t. set c.loop-hop.plan h.place t) (to_z-of_z w32 _ fr ∙ c.planned_after.ensures ∙ ap (λ t. sent_from (get_or c.args.lines.now h.place no_line) h.from t x) (to_z-of_z w32 _ fv))
          ∙ ap (λ t. sent_over c.args.lines.now x t h) c.loop-hop.invariant.sent
          ∙ sym (along_more c.args.lines.now c.args.hops.now x c.args.plan.now i c.loop-hop-test.true);
      ahead = λ k l m.
          get_or-set_other c.loop-hop.plan h.place (get_or c.args.hops.now k no_hop).place _ (pos 0) (λ e. c.requires.apart i k no_hop (omega (arith, l)) m (sym e)) ∙ c.loop-hop.invariant.ahead k (omega (arith, l)) m;
    }
