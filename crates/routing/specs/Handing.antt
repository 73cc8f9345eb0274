-- What the inner call of Direct says, which has the router below find the rest.
use Rattle.std.specs.Prelude.{◌≡◌, List, ℤ, ◌+ℤ◌, Ok, Err, ◌≢◌, slice_set}
use Rattle.members.specs.declared.group.Group.{Group}
use Rattle.credit.specs.declared.line.Line.{Line}
use Rattle.credit.specs.declared.payment.Payment.{Payment}
use Rattle.credit.specs.declared.refusal.Refusal.{Refusal}
use Rattle.credit.specs.declared.refusal.Refusal.TheVariants.{WantOfRoom}
use Rattle.credit.specs.Refusals.{Verdict, passes}
use Rattle.routing.specs.Meaning.{Routes}
use Rattle.routing.specs.declared.direct.Share.{Share}

-- where the one refusal is for want of room, the other names the same group, with the room larger by the part
abbrev pub Wider : Refusal → ℤ → Refusal → Type 0
Wider e part f = (g : Group) (w : ℤ) → e ≡ WantOfRoom g w → f ≡ WantOfRoom g (w +ℤ part)

-- where it is for another reason, the other is the same
abbrev pub Stays : Refusal → Refusal → Type 0
Stays e f = ((g : Group) (w : ℤ) → e ≢ WantOfRoom g w) → f ≡ e

-- the router below was given the rest, and the share is taken back where it refused
abbrev pub Answered : Verdict → List ℤ → Share → Verdict → List ℤ → Type 0
Answered (Ok u) left s r exit = (r ≡ passes) × (exit ≡ left)
Answered (Err e) left s r exit = (f : Refusal) × Wider e s.part f × (r ≡ Err f) × (exit ≡ slice_set left s.place s.before)

abbrev pub Handed : List Line → (rest : Payment) → Share → List ℤ → Verdict → List ℤ → Type 0
Handed ls rest s given r exit = (v : Verdict) × (left : List ℤ) × Routes ls rest given v left × Answered v left s r exit
