use Rattle.std.proofs.Common.{◌≡◌, ◌-◌, ◌<◌, ℕ, length, None, replicate, subst, ap, ◌∙◌, rules, arith}
use Rattle.std.specs.Slice.Iter.{windows_rest, windows_size}
use Rattle.std.proofs.lemmas.Iterator.{window_more}
use Rattle.lists.specs.Lists.{listed}
use Rattle.rings.proofs.Stepping.{Linking, linking_none, linking_next, linking_shut}
use Rattle.rings.proofs.ring.Ring.new.Goals.{in_default, in-len2-up}
use Rattle.rings.proofs.ring.Ring.new.Goals as goal

pub loop-step-init : goal.loop-step-init
loop-step-init c =
    let xs = listed c.args.chain.members in
    let e : windows_rest c.into_iter-step-iterator.result ≡ xs = ap windows_rest c.into_iter-step-iterator.ensures.into_iter_gives ∙ c.windows-step-items.ensures.rest ∙ c.as_slice-members.ensures.value in
    let n : length (windows_rest c.into_iter-step-iterator.result) ≡ length xs = ap length e in
    let z : 0 ≡ length xs - length (windows_rest c.into_iter-step-iterator.result) = omega arith in
    record {
      two = search rules;
      some = omega arith;
      short = omega arith;
      left = search rules;
      linked = subst (λ (i : ℕ). Linking xs (replicate 64 None) i) z (linking_none xs);
    }

pub loop-step-preserved : goal.loop-step-preserved
loop-step-preserved c =
    let v = c.loop-step.invariant in
    let xs = listed c.args.chain.members in
    let h = window_more xs c.loop-step.step-iterator c.next.new.self _ _ c.in-Some.is c.next.ensures.steps (omega arith) v.short v.left in
    record {
      two = search rules;
      some = omega arith;
      short = omega arith;
      left = h.1;
      linked = linking_next xs c.loop-step.creditors _ _ _ _ c.requires.apart (omega arith) v.linked (omega arith) (h.3 0 0 (omega arith)) (h.3 1 0 (omega arith));
    }

pub invariant_of-result : goal.invariant_of-result
invariant_of-result c =
    let v = c.loop-step.invariant in
    let last : length (windows_rest c.loop-step.step-iterator) < windows_size c.loop-step.step-iterator = c.in-None.ensures.steps.1.0 in
    elim c.if-members-lt2.branch [
      | in_default w ↦ let e = ap length c.as_slice-members.ensures.value in absurd (omega (arith, e))
      | in-len2-up w ↦ record { table = linking_shut _ _ _ _ _ c.requires.apart (omega arith) v.linked c.as_slice-members.ensures.value w.creditors-is }
    ]
