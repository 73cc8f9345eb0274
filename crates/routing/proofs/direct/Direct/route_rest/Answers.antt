use Rattle.std.proofs.Common.{Err, refl}
use Rattle.routing.proofs.direct.Direct.route_rest.Goals as goal

pub returns-in-Err : goal.returns-in-Err
returns-in-Err g c = (Err c.in-Err.refusal, c.route.new.plan, c.in-Err.ensures, (c.widened.result, c.widened.ensures.wider, refl, c.take_back.ensures))
