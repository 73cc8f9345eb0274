use Rattle.std.proofs.Common.{ap, ◌∙◌, w32, SFits, rules}
use Rattle.std.proofs.lemmas.Int.{to_z-of_z}
use Rattle.credit.specs.Rooms.{room}
use Rattle.credit.proofs.Booked.{booked_none, fits_none}
use Rattle.ledger.proofs.questions.room_of.Goals as goal

pub group_room-requires : goal.group_room-requires
group_room-requires c = record { few = c.requires.few; bounds = c.requires.bounds; fit = fits_none c.args.lines.now c.requires.bounds }

pub returns : goal.returns
returns c =
    let f : SFits w32 c.group_room.result = search rules in
    to_z-of_z w32 c.group_room.result f ∙ c.group_room.ensures.value ∙ ap (room c.args.group.bits) (booked_none c.args.lines.now)
