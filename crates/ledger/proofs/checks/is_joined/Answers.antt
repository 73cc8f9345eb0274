use Rattle.std.proofs.Common.{◌∙◌, rules, tests}
use Rattle.std.proofs.lemmas.Iterator.{YieldsList-from_slice}
use Rattle.std.proofs.lemmas.Iterator.Search.{any_from_yields_List}
use Rattle.credit.specs.Pairs.{joins}
use Rattle.ledger.proofs.Opens.{joined_any}
use Rattle.ledger.proofs.checks.is_joined.Goals as goal

pub returns : goal.returns
returns c =
    let x = c.args.first in
    let y = c.args.second in
    any_from_yields_List (joins x y) _ _ _ c.any.ensures.ran (YieldsList-from_slice c.args.lines.now cc) (λ l b q k. search (rules, tests)) ∙ joined_any x y c.args.lines.now
