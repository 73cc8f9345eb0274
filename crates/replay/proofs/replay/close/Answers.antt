use Rattle.std.proofs.Common.{◌<◌, ◌≤◌, List, length, vec_items, ◌∙◌, subst, arith, rules}
use Rattle.std.proofs.lemmas.List.{take_more, take_all}
use Rattle.calls.specs.declared.call.Call.{Call}
use Rattle.ledger.specs.States.{state_of}
use Rattle.replay.proofs.Agree.{law}
use Rattle.replay.proofs.Recording.{Recorded, recorded_push, recorded_closed}
use Rattle.replay.proofs.replay.close.Goals as goal

pub returns-in_err-entries : goal.returns-in_err-entries
returns-in_err-entries g c = record { law = law; run = search rules }

pub returns-in_err-ledger : goal.returns-in_err-ledger
returns-in_err-ledger g c = record { law = law; run = search rules }

pub returns-in_err-lines : goal.returns-in_err-lines
returns-in_err-lines g c = record { law = law; run = search rules }

pub loop-call-preserved : goal.loop-call-preserved
loop-call-preserved g c =
    let h : c.loop-call.call-index < length c.args.calls.now = omega arith in (
      c.serve-answer.ensures.genuine,
      recorded_push _ _ _ _ _ _ _ _ _ c.loop-call.invariant.1 c.serve-answer.ensures.does c.net_positions-nets.ensures (take_more c.args.calls.now c.loop-call.call-index _ h) c.push_reserved.ensures.items,
      omega arith,
      omega arith,
    )

pub returns : goal.returns
returns g c =
    let h : length c.args.calls.now ≤ c.loop-call.call-index = omega arith in
    record {
      law = law;
      run = recorded_closed _ _ _ (subst (λ (cs : List Call). Recorded (state_of c.loop-call.ledger) cs (vec_items c.loop-call.entries)) (take_all c.loop-call.call-index c.args.calls.now h) c.loop-call.invariant.1) (c.in_ok-lines.ensures.items_if_clones_equal (λ x y e. e) ∙ c.lines.ensures);
    }
