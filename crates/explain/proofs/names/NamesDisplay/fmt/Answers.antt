use Rattle.std.proofs.Common.{is_ok, ap, rules}
use Rattle.members.specs.Groups.{members_of}
use Rattle.explain.proofs.Naming.{names_all}
use Rattle.explain.proofs.names.NamesDisplay.fmt.Goals as goal

pub returns-clause-writes : goal.returns-clause-writes
returns-clause-writes g c =
    names_all g.W.Write.write_str_gives c.args.f.now c.write-2.new.self c.loop-member.f c.write-3.new.self
    c.write-2.result c.write-3.result c.in-Some.first c.in-Some-next.last c.loop-member.last
    (members_of c.args.self.now.0.bits) (members_of c.next.new.self.rest.bits) (members_of c.next-2.new.self.rest.bits) (members_of c.loop-member.member-iterator.rest.bits)
    (search rules) (search rules) (search rules) (ap is_ok c.in_ok-write.was) c.write-2.ensures.writes (λ p. search rules) c.write-3.ensures.writes
