use Rattle.std.proofs.Common.{◌≡◌, ◌+◌, ◌≤◌, ◌++◌, length}
use Rattle.members.specs.Groups.{members_of}
use Rattle.batch.specs.Sheets.{listed}
use Rattle.batch.proofs.compose.add_members.Given as goal

abbrev pub invariant-loop-member : goal.invariant-loop-member
invariant-loop-member l =
    let ahead = listed (members_of l.member-iterator.rest.bits) in
    record {
      bytes : l.text.bytes ++ ahead ≡ l.initial.text.bytes ++ listed (members_of l.initial.member-iterator.rest.bits);
      room : length l.text.bytes + length ahead ≤ length l.initial.text.bytes + 192;
    }
