use Rattle.search.specs.Rowed.{reaches}
use Rattle.rings.proofs.Graphs.{Gathered}
use Rattle.rings.proofs.graph.debts.Given as goal

abbrev pub invariant-loop-line : goal.invariant-loop-line
invariant-loop-line l = Gathered (reaches l.rows) l.lines l.line-index
