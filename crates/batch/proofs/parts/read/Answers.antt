use Rattle.std.proofs.Common.{◌<◌, ap, sym, subst, ◌∙◌, rules, arith, All}
use Rattle.std.proofs.lemmas.List.{take_all}
use Rattle.batch.specs.Numbers.{numeral_of}
use Rattle.batch.proofs.Rows.{no_number, step}
use Rattle.batch.proofs.parts.read.Goals as goal

pub returns-in_err-place-clause-value : goal.returns-in_err-place-clause-value
returns-in_err-place-clause-value c =
    let none = no_number _ _ _ _ _ c.loop-place.invariant (omega arith) (ap numeral_of (sym c.cut_at.ensures.front) ∙ sym c.in_err-place.ensures.value) in
    search rules

pub loop-place-preserved : goal.loop-place-preserved
loop-place-preserved c =
    rw c.cut_at.ensures.rest
    (step _ _ _ _ _ c.loop-place.invariant (omega arith) c.in_ok-place.field-0 (ap numeral_of (sym c.cut_at.ensures.front) ∙ sym c.in_ok-place.ensures.value) c.in_ok-place.ensures.small)

pub returns-clause-small : goal.returns-clause-small
returns-clause-small c =
    subst (All (λ n. n < 10000000)) (take_all c.loop-place.place-index c.loop-place.places (omega (arith, c.loop-place.invariant.size))) c.loop-place.invariant.small
