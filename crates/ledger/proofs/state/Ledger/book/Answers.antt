use Rattle.std.proofs.Common.{sym, refl, ◌∙◌}
use Rattle.ledger.proofs.Shapes.{cleared_whole}
use Rattle.ledger.proofs.state.Ledger.book.Goals as goal

pub returns-in-Some-clause-sheet : goal.returns-in-Some-clause-sheet
returns-in-Some-clause-sheet g c = c.book_on.ensures.sheet ∙ sym (cleared_whole c.args.plan.now (c.in-Some.ensures.variant.0 refl))
