use Rattle.std.proofs.Common.{pos, rules}
use Rattle.credit.specs.Plans.{moved}
use Rattle.credit.proofs.Bounds.{bounded_facts}
use Rattle.search.specs.Rowed.{reaches}
use Rattle.filling.proofs.Rowing.{both_steps}
use Rattle.filling.proofs.graph.add_line.Goals as goal

pub returns : goal.returns
returns c m n =
    let b = bounded_facts c.args.line.now c.requires in
    search (
      rules,
      c.add_step.ensures m n,
      c.add_step-2.ensures m n,
      both_steps (reaches c.args.rows.now m n) (moved c.args.line.now c.args.planned) (pos c.args.least) n b.order b.high m,
    )
