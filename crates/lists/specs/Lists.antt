-- What a list of fixed capacity holds.
use Rattle.std.specs.Prelude.{ℕ, List, take}
use Rattle.lists.specs.declared.few.Few.{Few}

-- the elements, in order
abbrev pub listed : {T : Type 0} {N : ℕ} → Few T N → List T
listed few = take few.count few.places
