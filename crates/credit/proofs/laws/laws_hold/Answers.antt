use Rattle.std.proofs.Common.{◌≡◌, [], pos, refl, arith}
use Rattle.std.proofs.lemmas.Int.{ints}
use Rattle.members.specs.Groups.{inside}
use Rattle.credit.specs.Plans.{Flow}
use Rattle.credit.specs.Laws.{Laws}
use Rattle.credit.specs.Example.{Example, network, plan}
use Rattle.credit.specs.Contrasts.{Contrasts}
use Rattle.credit.proofs.Rooms.{room_is, ends_bounded, flow_net, flow_out, weak_duality}
use Rattle.credit.proofs.Booked.{bounded_booked}
use Rattle.credit.proofs.laws.laws_hold.Goals as goal

laws : Laws
laws = record {
  room_is_trust_and_nets = λ ls b g. room_is g ls (ends_bounded ls b);
  flow_moves_payer_and_payee = flow_net;
  flow_out_takes_room = λ ls b p q n from to hp hq f g ip iq. flow_out g ls p q n from to (ends_bounded ls b) hp hq f ip iq;
  routed_fits_every_group = λ ls b p q n from to hp hq f t g ip iq. weak_duality ls p q n from to (ends_bounded ls b) hp hq f t g ip iq;
  booking_keeps_bounds = bounded_booked;
}

through : Flow network 1 3 (pos 30) [] plan
through m = omega (arith, ints)

another : Flow network 1 3 (pos 31) [] plan → ⊥
another f = let e : pos 30 ≡ pos 31 = f 1 in omega (arith, ints)

example : Example
unfolding inside
example = record {
  bounds = refl;
  pairs = refl;
  alone = refl;
  together = refl;
  flow = through;
  fit = refl;
  payer = refl;
  between = refl;
  payee = refl;
  spent = refl;
  left = refl;
}

contrasts : Contrasts
contrasts = record {
  everyone = refl;
  table = refl;
  trusted = refl;
  trusted_back = refl;
  too_much = refl;
  other_amount = another;
  two_lines = refl;
  in_debt = refl;
}

pub returns : goal.returns
returns c = record { laws = laws; example = example; contrasts = contrasts }
