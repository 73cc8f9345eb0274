use Rattle.std.proofs.Common.{◌≡◌, length, subst, arith}
use Rattle.calls.specs.declared.call.Call.TheVariants.{Reserve}
use Rattle.calls.specs.declared.call.Answer.TheVariants.{Reserved}
use Rattle.ledger.specs.States.{state_of}
use Rattle.ledger.specs.Calls.{Does}
use Rattle.closing.proofs.Trying.{tried}
use Rattle.closing.proofs.run.Run.try_out.Goals as goal

pub returns-in-Ok-clause-serves : goal.returns-in-Ok-clause-serves
returns-in-Ok-clause-serves g c =
    let pay = c.args.payment in
    let v = c.in-Ok.reservation in
    let s = state_of c.args.self.now.ledger.now in
    let t = state_of c.reserve-reserved.new.self in
    let long : length c.args.self.now.plan ≡ 256 = omega arith in
    let got : Does s (Reserve 256 pay) (Reserved v.payment) t = subst (λ k. Does s (Reserve k pay) (Reserved v.payment) t) long c.in-Ok.ensures.answer in
    tried s t (state_of c.release.new.self) pay v.payment c.release.result got c.release.ensures.answer
