use Rattle.std.proofs.Common.{◌≡◌, [], length, refl, ap, append-nil, arith}
use Rattle.batch.specs.Reads.{left, steps_of}
use Rattle.closing.specs.Runs.{place_of}
use Rattle.closing.proofs.Carrying.{steps_few}
use Rattle.closing.proofs.run.Run.carry_all.Goals as goal

pub loop-step-init : goal.loop-step-init
loop-step-init g c =
    let all : left c.into_iter-step-iterator.result ≡ steps_of c.args.batch.now = cc in
    record {
      carries = λ more to h. rw (← all, c.requires.empty) h;
      fair = c.requires.fair;
      len = omega (arith, ap length all, ap length c.requires.empty, steps_few c.args.batch.now);
      same_reference = refl;
      capacity = refl;
    }

pub returns-clause-carries : goal.returns-clause-carries
returns-clause-carries g c = rw append-nil at (c.loop-step.invariant.carries [] (place_of c.loop-step.self) (rw c.in-None.ensures.steps.0 (refl, refl)))
