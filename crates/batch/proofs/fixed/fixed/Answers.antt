use Rattle.std.proofs.Common.{codes, sym, ap, rules, arith}
use Rattle.std.proofs.lemmas.Slice.Eq.{text_from_reads}
use Rattle.batch.proofs.Grammars.{no_route}
use Rattle.batch.specs.Grammar.{fixed_of}
use Rattle.batch.proofs.fixed.fixed.Goals as goal

pub returns-in-40 : goal.returns-in-40
returns-in-40 c = sym (ap fixed_of (text_from_reads c.args.line.now (codes "(tidy)") (omega arith) (search rules)))

pub returns-in-40-2 : goal.returns-in-40-2
returns-in-40-2 c = sym (ap fixed_of (text_from_reads c.args.line.now (codes "(route breadth)") (omega arith) (search rules)))

pub returns-in-40-3 : goal.returns-in-40-3
returns-in-40-3 c = sym (ap fixed_of (text_from_reads c.args.line.now (codes "(route scaling)") (omega arith) (search rules)))

pub returns-in-40-4 : goal.returns-in-40-4
returns-in-40-4 c = sym (ap fixed_of (text_from_reads c.args.line.now (codes "(route kept)") (omega arith) (search rules)))

pub returns-in-40-5 : goal.returns-in-40-5
returns-in-40-5 c = sym (ap fixed_of (text_from_reads c.args.line.now (codes "(all") (omega arith) (search rules)))

pub returns-in_default-33 : goal.returns-in_default-33
returns-in_default-33 c = no_route c.args.line.now 10 7 (omega arith) (omega arith) (omega arith)

pub returns-in_default-40 : goal.returns-in_default-40
returns-in_default-40 c = no_route c.args.line.now 7 10 (omega arith) (omega arith) (omega arith)

pub returns-in_default-41 : goal.returns-in_default-41
returns-in_default-41 c = no_route c.args.line.now 7 9 (omega arith) (omega arith) (omega arith)
