use Rattle.std.proofs.Common.{◌≡◌, ◌+◌, eqb, sym, ◌∙◌, rules, tests}
use Rattle.std.specs.List.{position}
use Rattle.std.proofs.lemmas.Iterator.{YieldsList-from_slice}
use Rattle.std.proofs.lemmas.Iterator.Search.{position_from_yields_List}
use Rattle.std.proofs.lemmas.List.{take_rest}
use Rattle.batch.proofs.Lines.{cut_some, cut_none}
use Rattle.batch.proofs.scan.cut_at.Goals as goal

pub returns-in-Some : goal.returns-in-Some
returns-in-Some c =
    let bytes = c.args.bytes.now in
    let found : c.position.result ≡ position (λ b. eqb b c.args.stop) bytes = position_from_yields_List (λ b. eqb b c.args.stop) _ _ c.position.result c.position.ensures.ran (YieldsList-from_slice bytes cc) (λ x b q k. search (rules, tests)) in
    let is = cut_some (λ b. eqb b c.args.stop) bytes c.in-Some.end (sym found ∙ c.in-Some.is) in
    record { front = is.0; rest = take_rest bytes (c.in-Some.end + 1) ∙ is.1 }

pub returns-in-None : goal.returns-in-None
returns-in-None c =
    let bytes = c.args.bytes.now in
    let found : c.position.result ≡ position (λ b. eqb b c.args.stop) bytes = position_from_yields_List (λ b. eqb b c.args.stop) _ _ c.position.result c.position.ensures.ran (YieldsList-from_slice bytes cc) (λ x b q k. search (rules, tests)) in
    let is = cut_none (λ b. eqb b c.args.stop) bytes (sym found ∙ c.in-None.is) in
    record { front = is.0; rest = is.1 }
