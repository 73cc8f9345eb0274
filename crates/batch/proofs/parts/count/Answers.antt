use Rattle.std.proofs.Common.{eqb, rules, tests}
use Rattle.std.proofs.lemmas.Iterator.Consumers.{count_from_yields_List}
use Rattle.std.proofs.lemmas.Iterator.Splits.{YieldsList-from_slice_split}
use Rattle.batch.proofs.parts.count.Goals as goal

pub returns : goal.returns
returns c =
    let ensures = c.split.ensures in
    count_from_yields_List c.split.result c.count.result c.count.ensures.ran
    (YieldsList-from_slice_split _ (λ b. eqb b c.args.stop) c.args.bytes.now ensures.rest ensures.done ensures.closure (λ x b q k. search (rules, tests)))
