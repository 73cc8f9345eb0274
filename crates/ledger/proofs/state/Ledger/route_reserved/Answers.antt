use Rattle.std.proofs.Common.{vec_items, arith}
use Rattle.ledger.proofs.Steps.{routed_checked}
use Rattle.ledger.specs.Calls.{blank}
use Rattle.ledger.proofs.Serves.{served_reserved}
use Rattle.ledger.proofs.state.Ledger.route_reserved.Goals as goal

pub returns-clause-routes : goal.returns-clause-routes
returns-clause-routes g c =
    let s = c.args.self.now in
    served_reserved (vec_items s.lines) s.standing c.args.payment c.ask.result c.ask.new.plan s.bounds (omega (arith, s.few, s.lines.ok.0)) s.proper s.fitting c.requires c.ask.ensures.routes

pub returns-clause-fit : goal.returns-clause-fit
returns-clause-fit g c = (routed_checked (vec_items c.args.self.now.lines) c.args.payment blank c.ask.new.plan (returns-clause-routes g c)).1.fit
