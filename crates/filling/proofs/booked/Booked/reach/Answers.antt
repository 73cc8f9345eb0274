use Rattle.std.proofs.Common.{◌≡◌, true, pos, Ok, Err}
use Rattle.search.specs.Rowed.{reaches}
use Rattle.filling.specs.Steps.{RoomStep}
use Rattle.filling.proofs.Rowing.{answered_same}
use Rattle.filling.proofs.booked.Booked.reach.Goals as goal

pub returns-in-Ok : goal.returns-in-Ok
returns-in-Ok c =
    answered_same (λ m n. reaches c.graph.result m n ≡ true) (RoomStep c.args.self.now (pos c.args.least))
    c.graph.ensures.sound c.graph.ensures.complete c.args.payment.payer c.args.payment.payee (Ok c.in-Ok.chain) c.in-Ok.ensures.2

pub returns-in-Err-Closed : goal.returns-in-Err-Closed
returns-in-Err-Closed c =
    answered_same (λ m n. reaches c.graph.result m n ≡ true) (RoomStep c.args.self.now (pos c.args.least))
    c.graph.ensures.sound c.graph.ensures.complete c.args.payment.payer c.args.payment.payee (Err c.in-Err-Closed.group) (rw c.in-Err-Closed.field-0-is at c.in-Err-Closed.ensures).2
