use Rattle.std.proofs.Common.{vec_items, of_calls}
use Rattle.ledger.proofs.Opens.{line_debt}
use Rattle.ledger.proofs.state.Ledger.debt_on.Goals as goal

pub map-requires : goal.map-requires
map-requires c = λ line is.
    let s = c.args.self.now in
    let b = line_debt c.args.first c.args.second (vec_items s.lines) line s.bounds cc in
    search of_calls
