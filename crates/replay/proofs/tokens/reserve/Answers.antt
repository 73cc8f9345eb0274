use Rattle.replay.proofs.Holding.{reserve_declined, reserve_held}
use Rattle.replay.proofs.tokens.reserve.Goals as goal

pub returns-in-Err : goal.returns-in-Err
returns-in-Err g c = reserve_declined _ _ c.args.payment c.reserve.result c.in-Err.refusal c.args.held _ c.requires c.in-Err.is c.reserve.ensures.answer

pub returns-in-None : goal.returns-in-None
returns-in-None g c = reserve_held _ _ c.args.payment c.reserve.result c.in-Ok.token _ c.in-Ok.is c.reserve.ensures.answer
