use Rattle.std.proofs.Common.{◌≡◌, drop}
use Rattle.routing.specs.Kept.{recalled}
use Rattle.routing.proofs.kept.recalled.Given as goal

abbrev pub invariant-loop-group : goal.invariant-loop-group
invariant-loop-group l = recalled l.lines l.payment l.plan (drop l.group-index l.groups) ≡ recalled l.lines l.payment l.plan l.groups
