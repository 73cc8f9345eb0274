use Rattle.std.proofs.Common.{◌≡◌, eqb, sym, ap, ◌∙◌, rules, tests}
use Rattle.std.specs.Option.{option_and_then}
use Rattle.std.specs.Result.{result_ok}
use Rattle.std.proofs.lemmas.Iterator.Adapters.{option_map_id}
use Rattle.std.proofs.lemmas.Iterator.Search.{find_from_yields_List}
use Rattle.std.proofs.lemmas.Iterator.Consumers.{YieldsList-from_first}
use Rattle.batch.specs.declared.reader.Step.{Step}
use Rattle.batch.specs.Reads.{left, steps_of}
use Rattle.explain.proofs.Seeking.{sought}
use Rattle.explain.proofs.forms.form_at.Goals as goal

pub returns : goal.returns
returns c =
    let n = c.args.line in
    let steps = steps_of c.args.batch.now in
    let found = find_from_yields_List (λ s. eqb s.line n) c.find.new.self _ c.find.result c.find.ensures.ran (YieldsList-from_first (λ x. x) left steps c.new.ensures) (λ x b q k. search (rules, tests)) in
    let form : c.and_then.result ≡ option_and_then (λ (s : Step). result_ok s.form) c.find.result = search (rules, tests) in
    form ∙ ap (option_and_then (λ (s : Step). result_ok s.form)) (sym (option_map_id c.find.result) ∙ found) ∙ sought n steps
