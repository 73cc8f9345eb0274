use Rattle.std.proofs.Common.{◌≡◌, pos, sym, ap, ◌∙◌, rules, tests}
use Rattle.std.proofs.lemmas.Iterator.{YieldsList-from_slice, YieldsList-from_zip}
use Rattle.std.proofs.lemmas.Iterator.Search.{position_from_yields_List}
use Rattle.std.specs.List.{position}
use Rattle.credit.specs.Plans.{moved}
use Rattle.filling.specs.Steps.{leads}
use Rattle.filling.proofs.Filled.{usable_facts}
use Rattle.filling.proofs.Firsts.{position_zip, first_leads, none_leads}
use Rattle.filling.proofs.booked.Booked.place.Goals as goal
use Rattle.filling.proofs.booked.Booked.place.Goals.{After-position-first}

-- what is found is the first of the lines once the plan is booked
found : (c : After-position-first) → c.position-first.result ≡ position (λ l. leads l (pos c.args.least) c.args.from c.args.to) c.args.self.now
found c =
    let ls = c.self.inside.lines.now in
    let xs = c.self.inside.plan.now in
    position_from_yields_List (λ p. leads (moved p.0 p.1) (pos c.args.least) c.args.from c.args.to) c.position-first.new.self _ c.position-first.result c.position-first.ensures.ran
    (YieldsList-from_zip (YieldsList-from_slice ls cc) (YieldsList-from_slice xs cc)) (λ x b q k. search (rules, tests))
    ∙ position_zip (λ l. leads l (pos c.args.least) c.args.from c.args.to) ls xs (usable_facts ls xs c.self.invariant).long
    ∙ ap (position (λ l. leads l (pos c.args.least) c.args.from c.args.to)) c.self.view_is

pub unreachable-requires : goal.unreachable-requires
unreachable-requires c = none_leads c.args.self.now (pos c.args.least) c.args.from c.args.to (sym (found (goal.at.unreachable-requires c).After-position-first) ∙ c.in-None.is) c.requires

pub returns : goal.returns
returns c = first_leads c.args.self.now (pos c.args.least) c.args.from c.args.to c.in-Some.place (sym (found (goal.at.returns c).After-position-first) ∙ c.in-Some.is)
