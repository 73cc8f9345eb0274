use Rattle.replay.proofs.Holding.{book_sought}
use Rattle.replay.proofs.tokens.book.Goals as goal

pub returns-in-Ok : goal.returns-in-Ok
returns-in-Ok g c = book_sought _ _ c.in-Ok.token c.args.payment c.book_held.result _ c.in-Ok.ensures.1 c.book_held.ensures
