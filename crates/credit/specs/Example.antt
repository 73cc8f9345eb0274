-- A worked example: 1 and 2 trust each other, and so do 2 and 3; 1 pays 30 to 3 by way of 2.
use Rattle.std.specs.Prelude.{◌≡◌, true, List, [], ◌∷◌, ℤ, pos, negsuc}
use Rattle.credit.specs.declared.line.Line.{Line}
use Rattle.credit.specs.Sums.{every}
use Rattle.credit.specs.Net.{bounded, net}
use Rattle.credit.specs.Rooms.{room}
use Rattle.credit.specs.Plans.{booked, Flow, fits}
use Rattle.credit.specs.Pairs.{distinct}

abbrev pub network : List Line
network = record { a = 1; b = 2; trust_a = pos 50; trust_b = pos 30; debt = pos 0 } ∷ record { a = 2; b = 3; trust_a = pos 20; trust_b = pos 40; debt = pos 0 } ∷ []

abbrev pub plan : List ℤ
plan = pos 30 ∷ pos 30 ∷ []

-- the group of member 1 alone is the number 2, that of members 1 and 2 is 6
pub record Example : Type 0 where
  pub bounds : every bounded network ≡ true
  pub pairs : distinct network ≡ true
  pub alone : room 2 network ≡ pos 30
  pub together : room 6 network ≡ pos 40
  pub flow : Flow network 1 3 (pos 30) [] plan
  pub fit : fits network plan ≡ true
  pub payer : net 1 (booked network plan) ≡ negsuc 29
  pub between : net 2 (booked network plan) ≡ pos 0
  pub payee : net 3 (booked network plan) ≡ pos 30
  pub spent : room 2 (booked network plan) ≡ pos 0
  pub left : room 6 (booked network plan) ≡ pos 10
