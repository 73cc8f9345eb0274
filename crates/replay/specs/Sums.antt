-- Worked sums, each over every run of a new ledger, whatever routers serve it.
use Rattle.std.specs.Prelude.{◌≡◌, ℕ, List, [], ◌∷◌, replicate, ℤ, pos, neg_ℤ, None}
use Rattle.credit.specs.declared.line.Line.{Line}
use Rattle.credit.specs.declared.payment.Payment.{Payment}
use Rattle.credit.specs.Rooms.{room}
use Rattle.rings.specs.Rings.{owes}
use Rattle.calls.specs.declared.call.Call.{Call}
use Rattle.calls.specs.declared.call.Call.TheVariants.{Open, Pay, Begin, Tidy}
use Rattle.calls.specs.declared.call.Answer.{Answer}
use Rattle.ledger.specs.States.{State}
use Rattle.ledger.specs.Calls.{Does}
use Rattle.replay.specs.Runs.{Turn, latest, Run, calls, Reply, done, refused, replies}

-- every run over these calls gives these answers; the newest stands first
abbrev pub Gives : List Call → List Reply → Type 0
Gives cs rs = (ts : List Turn) → Run ts → calls ts ≡ cs → replies ts ≡ rs

-- the network of two lines, 1 2 (50, 30) and then 2 3 (20, 40)
abbrev pub network : List Call
network = Open 2 3 (pos 20) (pos 40) ∷ Open 1 2 (pos 50) (pos 30) ∷ []

abbrev pub due : ℕ → ℕ → ℕ → Payment
due p q n = record { payer = p; payee = q; amount = pos n }

abbrev pub pay : ℕ → ℕ → ℕ → Call
pay p q n = Pay 256 (due p q n)

-- a line with trust of 10 both ways and a debt
abbrev pub owing : ℕ → ℕ → ℤ → Line
owing a b d = record { a = a; b = b; trust_a = pos 10; trust_b = pos 10; debt = d }

-- 1 owes 2 seven, 2 owes 3 five, 3 owes 1 nine
abbrev pub round : State
round = record { lines = owing 1 2 (neg_ℤ (pos 7)) ∷ owing 2 3 (neg_ℤ (pos 5)) ∷ owing 1 3 (pos 9) ∷ []; groups = []; standing = None }

pub record Sums : Type 0 where
  pub through : Gives (pay 1 3 30 ∷ network) (done ∷ done ∷ done ∷ [])
  pub short : Gives (pay 1 3 31 ∷ network) (refused 16 ∷ done ∷ done ∷ [])
  pub back : Gives (pay 3 1 50 ∷ pay 1 3 30 ∷ network) (done ∷ done ∷ done ∷ done ∷ [])
  pub over : Gives (pay 3 1 51 ∷ pay 1 3 30 ∷ network) (refused 16 ∷ done ∷ done ∷ done ∷ [])
  -- the group of member 3 alone, 2 to the power of 3
  pub room3 : (ts : List Turn) → Run ts → calls ts ≡ pay 1 3 30 ∷ network → room 8 (latest ts).lines ≡ pos 50
  pub stranger : Gives (pay 64 64 5 ∷ []) (refused 5 ∷ [])
  pub alone : Gives (pay 1 1 0 ∷ []) (refused 6 ∷ [])
  pub most : Gives (pay 1 3 1000000 ∷ network) (refused 16 ∷ done ∷ done ∷ [])
  pub more : Gives (pay 1 3 1000001 ∷ network) (refused 7 ∷ done ∷ done ∷ [])
  pub ninth : Gives (replicate 9 Begin) (refused 13 ∷ replicate 8 done)
  pub tidied : (r : Answer) (s : State) → Does round Tidy r s →
      (owes 1 2 s.lines ≡ pos 2) × (owes 2 3 s.lines ≡ pos 0) × (owes 3 1 s.lines ≡ pos 4)
