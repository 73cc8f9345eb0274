use Rattle.std.proofs.Common.{subst, sym, ◌+◌}
use Rattle.search.specs.declared.rows.Rows.{Rows}
use Rattle.search.specs.Rowed.{reaches}
use Rattle.rings.proofs.Graphs.{Gathered, gathered_debt, gathered_idle}
use Rattle.rings.proofs.graph.debts.Goals.{in-Some, in_default}
use Rattle.rings.proofs.graph.debts.Goals as goal

pub loop-line-preserved : goal.loop-line-preserved
loop-line-preserved c =
    let ls = c.args.lines.now in
    let i = c.loop-line.line-index in
    elim c.match-debt_of.branch [
      | in-Some w ↦
          subst (λ (r : Rows). Gathered (reaches r) ls (i + 1)) (sym w.rows-is)
          (gathered_debt (reaches c.loop-line.rows) (reaches w.add.new.self) ls i _ _ c.loop-line.invariant w.in-Some.ensures w.add.ensures)
      | in_default w ↦
          subst (λ (r : Rows). Gathered (reaches r) ls (i + 1)) (sym w.rows-is) (gathered_idle (reaches c.loop-line.rows) ls i c.loop-line.invariant w.in_default.ensures)
    ]
