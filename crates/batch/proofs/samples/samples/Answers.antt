use Rattle.std.proofs.Common.{refl}
use Rattle.std.specs.Fmt.{digits}
use Rattle.members.specs.Groups.{inside, members_from, members_of}
use Rattle.batch.specs.Forms.{shape_of}
use Rattle.batch.proofs.samples.samples.Goals as goal

pub returns : goal.returns
unfolding digits inside members_of members_from shape_of
returns c = record {
  leading_zero = refl;
  two_parts = refl;
  empty = refl;
  no_part = refl;
  no_space = refl;
  unclosed = refl;
  two_spaces = refl;
  line = refl;
  lines = refl;
  last_ended = refl;
  debt = refl;
  left_open = refl;
  want_of_room = refl;
}
