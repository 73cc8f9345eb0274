-- Who stands on a ring.
use Rattle.std.specs.Prelude.{ℕ, List}
use Rattle.lists.specs.Lists.{listed}
use Rattle.rings.specs.declared.ring.Ring.{Ring}

-- who stands on the ring
abbrev pub party : Ring → List ℕ
party r = listed r.chain.members
