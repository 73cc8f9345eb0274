use Rattle.std.proofs.Common.{◌≡◌, ℤ, ◌+ℤ◌, ◌-ℤ◌, ap, ◌∙◌, ap₂, arith, w32, SFits}
use Rattle.std.proofs.lemmas.Int.{ints, to_z-of_z}
use Rattle.credit.specs.Sums.{only}
use Rattle.credit.specs.Plans.{with_debt}
use Rattle.credit.proofs.Bounds.{bounded_facts}
use Rattle.rings.specs.Rings.{on, steps}
use Rattle.rings.specs.Parties.{party}
use Rattle.rings.proofs.ring.Ring.lowered.Goals as goal

pub overflow_add-line : goal.overflow_add-line
overflow_add-line c =
    let f = bounded_facts c.args.line c.requires.bounds in
    let fd : SFits w32 c.args.line.debt = omega (arith, ints) in
    let fp : SFits w32 c.fall.result = omega (arith, ints) in
    let fq : SFits w32 c.fall-2.result = omega (arith, ints) in
    let fs : SFits w32 (c.args.line.debt -ℤ c.fall.result) = omega (arith, ints) in
    simp to_z-of_z (omega (arith, ints))

pub returns : goal.returns
returns c =
    let f = bounded_facts c.args.line c.requires.bounds in
    let l = c.args.line in
    let ss = steps (party c.args.self.now) in
    let x : c.fall.result ≡ only (on l.b l.a ss) c.args.by = c.fall.ensures.value ∙ ap (only (on l.b l.a ss)) (to_z-of_z w32 c.args.by c.ranges.by) in
    let y : c.fall-2.result ≡ only (on l.a l.b ss) c.args.by = c.fall-2.ensures.value ∙ ap (only (on l.a l.b ss)) (to_z-of_z w32 c.args.by c.ranges.by) in
    let fd : SFits w32 l.debt = omega (arith, ints) in
    let fp : SFits w32 c.fall.result = omega (arith, ints) in
    let fq : SFits w32 c.fall-2.result = omega (arith, ints) in
    let fs : SFits w32 (l.debt -ℤ c.fall.result) = omega (arith, ints) in
    let ft : SFits w32 ((l.debt -ℤ c.fall.result) +ℤ c.fall-2.result) = omega (arith, ints) in
    simp to_z-of_z (ap₂ (λ (u v : ℤ). with_debt l ((l.debt -ℤ u) +ℤ v)) x y)
