use Rattle.std.proofs.Common.{◌&&◌, ◌∙◌, rules, tests}
use Rattle.std.proofs.lemmas.Iterator.{YieldsList-from_slice, YieldsList-from_zip}
use Rattle.std.proofs.lemmas.Iterator.Search.{all_from_yields_List}
use Rattle.credit.specs.Net.{bounded}
use Rattle.credit.specs.Plans.{moved, roomy}
use Rattle.routing.proofs.Fitting.{all_sound}
use Rattle.routing.proofs.checks.all_fit.Goals as goal

pub returns : goal.returns
returns c =
    all_from_yields_List (λ p. bounded p.0 && roomy (moved p.0 p.1)) c.all.new.self _ c.all.result c.all.ensures.ran
    (YieldsList-from_zip (YieldsList-from_slice c.args.lines.now cc) (YieldsList-from_slice c.args.plan.now cc)) (λ x b q k. search (rules, tests))
    ∙ all_sound c.args.lines.now c.args.plan.now c.requires
