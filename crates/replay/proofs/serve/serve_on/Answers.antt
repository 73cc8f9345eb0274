use Rattle.std.proofs.Common.{length, ℤ, refl, ap, subst₂, w32, SFits, rules}
use Rattle.std.proofs.lemmas.Int.{to_z-of_z}
use Rattle.calls.specs.declared.call.Call.{Call}
use Rattle.calls.specs.declared.call.Call.TheVariants.{Open, Pay, Begin, End, Abandon}
use Rattle.calls.specs.Answers.{done_or}
use Rattle.ledger.specs.States.{state_of}
use Rattle.ledger.specs.Calls.{Does}
use Rattle.replay.specs.Tokens.{on_sheet}
use Rattle.replay.proofs.Holding.{served_quietly}
use Rattle.replay.proofs.serve.serve_on.Goals as goal

pub returns-in-Open : goal.returns-in-Open
returns-in-Open g c =
    let f : SFits w32 c.in-Open.trust = search rules in
    let h : SFits w32 c.in-Open.back = search rules in
    let d = subst₂ (λ (t u : ℤ). Does (state_of c.args.ledger.now) (Open c.in-Open.first c.in-Open.second t u) (done_or c.open.result) (state_of c.open.new.self)) (to_z-of_z w32 c.in-Open.trust f) (to_z-of_z w32 c.in-Open.back h) c.open.ensures.answer in
    served_quietly _ _ (Open c.in-Open.first c.in-Open.second c.in-Open.trust c.in-Open.back) _ _ _ c.args.held c.requires (ap (λ (v : Call). on_sheet v (length c.args.sheet.now)) c.in-Open.is) refl c.from.ensures d

pub returns-in-Pay : goal.returns-in-Pay
returns-in-Pay g c = served_quietly _ _ (Pay (length c.args.sheet.now) c.in-Pay.payment) _ _ _ c.args.held c.requires (ap (λ (v : Call). on_sheet v (length c.args.sheet.now)) c.in-Pay.is) refl c.from-in-Pay.ensures c.pay.ensures.answer

pub returns-in-Begin : goal.returns-in-Begin
returns-in-Begin g c = served_quietly _ _ Begin _ _ _ c.args.held c.requires (ap (λ (v : Call). on_sheet v (length c.args.sheet.now)) c.in-Begin.is) refl c.from-in-Begin.ensures c.begin.ensures.answer
