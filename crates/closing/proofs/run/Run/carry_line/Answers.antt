use Rattle.closing.proofs.Fairness.{served}
use Rattle.closing.proofs.run.Run.carry_line.Goals as goal

pub returns-in-Ok-clause-fair : goal.returns-in-Ok-clause-fair
returns-in-Ok-clause-fair g c = rw (c.mark.ensures, c.carry-answer.ensures.marks) (served c.in-Ok.form _ _ _ c.args.step.line _ c.carry-answer.ensures.serves c.requires)
