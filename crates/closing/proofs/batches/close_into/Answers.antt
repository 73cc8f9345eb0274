use Rattle.std.proofs.Common.{sym}
use Rattle.closing.proofs.Laying.{carried_closing}
use Rattle.closing.proofs.batches.close_into.Goals as goal

pub returns-in-Ok : goal.returns-in-Ok
returns-in-Ok g c = carried_closing _ _ _ _ (sym c.in-Ok.ensures) c.close_open.ensures.carried c.close_open.ensures.fair
