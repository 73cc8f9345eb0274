use Rattle.std.specs.Fmt.{IsPlainFormatter}
use Rattle.members.specs.Groups.{members_of}
use Rattle.explain.proofs.Naming.{Leads}
use Rattle.explain.proofs.names.NamesDisplay.fmt.Given as goal

abbrev pub invariant-loop-member : goal.invariant-loop-member
invariant-loop-member g l =
    IsPlainFormatter l.initial.f
    → Leads g.W.Write.write_str_gives l.initial.f l.initial.last (members_of l.initial.member-iterator.rest.bits) l.f l.last (members_of l.member-iterator.rest.bits)
