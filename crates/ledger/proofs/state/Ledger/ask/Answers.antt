use Rattle.std.proofs.Common.{vec_items, length, rules}
use Rattle.ledger.proofs.Serves.{served, served_ample}
use Rattle.ledger.proofs.state.Ledger.ask.Goals as goal

pub returns-clause-routes : goal.returns-clause-routes
returns-clause-routes g c =
    served _ (vec_items c.args.self.now.lines) c.args.payment c.fill.new.self (length c.args.plan.now) c.route.result c.route.new.plan c.deref.ensures.value (c.fill.ensures.after (λ y e. e)) (search rules) c.route.ensures

pub returns-clause-ample : goal.returns-clause-ample
returns-clause-ample g c =
    served_ample (vec_items c.args.self.now.lines) c.args.payment c.route.result c.route.new.plan c.args.self.now.bounds (returns-clause-routes g c)
