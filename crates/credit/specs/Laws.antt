-- The laws of nets, rooms and flows.
use Rattle.std.specs.Prelude.{◌≡◌, ℕ, ◌<◌, true, false, List, ℤ, ◌+ℤ◌, ◌-ℤ◌, ◌≤ℤ◌, ◌==◌}
use Rattle.members.specs.Groups.{inside}
use Rattle.credit.specs.declared.line.Line.{Line}
use Rattle.credit.specs.Sums.{only, every}
use Rattle.credit.specs.Net.{bounded, net}
use Rattle.credit.specs.Rooms.{room, trust, trust_into, net_inside}
use Rattle.credit.specs.Plans.{booked, Flow, fits}

pub record Laws : Type 0 where
  -- a group's room is the trust that outsiders give insiders plus the insiders' net positions
  pub room_is_trust_and_nets : (ls : List Line) → every bounded ls ≡ true → (g : ℕ) → room g ls ≡ trust_into g (λ i j. trust i j ls) +ℤ net_inside g (λ m. net m ls)
  -- to book a flow costs the payer the amount, brings it to the payee, and moves nobody else
  pub flow_moves_payer_and_payee : (ls : List Line) (p q : ℕ) (n : ℤ) (from to : List ℤ) → Flow ls p q n from to → (m : ℕ) → net m (booked ls to) ≡ (net m (booked ls from) -ℤ only (m == p) n) +ℤ only (m == q) n
  -- a flow from inside a group to outside lowers its room by the amount
  pub flow_out_takes_room : (ls : List Line) → every bounded ls ≡ true → (p q : ℕ) (n : ℤ) (from to : List ℤ) → p < 64 → q < 64 → Flow ls p q n from to → (g : ℕ) → inside g p ≡ true → inside g q ≡ false → room g (booked ls to) ≡ room g (booked ls from) -ℤ n
  -- no more can be routed than the room of any group between payer and payee
  pub routed_fits_every_group : (ls : List Line) → every bounded ls ≡ true → (p q : ℕ) (n : ℤ) (from to : List ℤ) → p < 64 → q < 64 → Flow ls p q n from to → fits ls to ≡ true → (g : ℕ) → inside g p ≡ true → inside g q ≡ false → n ≤ℤ room g (booked ls from)
  -- a plan that fits keeps every line within its bounds
  pub booking_keeps_bounds : (ls : List Line) (xs : List ℤ) → every bounded ls ≡ true → fits ls xs ≡ true → every bounded (booked ls xs) ≡ true
