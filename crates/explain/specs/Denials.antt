-- Why a line of a batch is refused, in words.
use Rattle.std.specs.Prelude.{ℕ, List, [], ◌++◌, ℤ, ◌-ℤ◌, Some, None, codes, decimal, Option}
use Rattle.std.specs.Fmt.{signed_decimal}
use Rattle.members.specs.declared.group.Group.{Group}
use Rattle.members.specs.Groups.{members_of}
use Rattle.credit.specs.declared.refusal.Refusal.{Refusal}
use Rattle.credit.specs.declared.refusal.Refusal.TheVariants.{WantOfRoom, LeftOpen}
use Rattle.credit.specs.Refusals.{number_of}
use Rattle.credit.specs.Sentences.{sentence}
use Rattle.batch.specs.declared.form.Form.{Form}
use Rattle.batch.specs.declared.form.Form.TheVariants.{Pay, Try}
use Rattle.explain.specs.Asks.{lead_of}
use Rattle.explain.specs.Words.{minutes_of, names_of}

-- the amount that a form asks to pay
abbrev pub amount_of : Option Form → Option ℤ
amount_of (Some (Pay pay)) = Some pay.amount
amount_of (Some (Try pay)) = Some pay.amount
amount_of form = None

-- by how much an amount passes a room, where there is one
abbrev pub lack_of : Option ℤ → ℤ → List ℕ
lack_of None room = []
lack_of (Some n) room = codes ", " ++ (signed_decimal (n -ℤ room) ++ codes " too few")

-- the members that together lack room, what room they have, and what is lacking
abbrev pub want_of : Group → ℤ → Option ℤ → List ℕ
want_of g room amount = codes "want of room: " ++ (names_of (members_of g.bits) ++ (codes " can pay others only " ++ (minutes_of room ++ (codes " more" ++ lack_of amount room))))

-- a refused line
abbrev pub denial_of : ℕ → Option Form → Refusal → List ℕ
denial_of line form (WantOfRoom g room) = lead_of line form ++ (codes "refused (" ++ (decimal (number_of (WantOfRoom g room)) ++ (codes "), " ++ (want_of g room (amount_of form) ++ codes "."))))
denial_of line form LeftOpen = codes "The group of payments that line " ++ (decimal line ++ codes " began was open at the end: it is undone.")
denial_of line form e = lead_of line form ++ (codes "refused (" ++ (decimal (number_of e) ++ (codes "), " ++ (sentence e ++ codes "."))))
