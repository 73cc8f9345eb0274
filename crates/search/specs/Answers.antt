-- What an answer of the search says.
use Rattle.std.specs.Prelude.{ℕ, ◌-◌, ◌<◌, length, Ok, Err, Result}
use Rattle.lists.specs.Lists.{listed}
use Rattle.members.specs.declared.group.Group.{Group}
use Rattle.search.specs.Chains.{IsShortest, Separates}
use Rattle.search.specs.declared.chain.Chain.{Chain}
use Rattle.search.specs.declared.chain.NoChain.{NoChain}
use Rattle.search.specs.declared.chain.NoChain.TheVariants.{NotMembers, Closed}

-- how many steps a chain has: one less than members
abbrev pub steps : Chain → ℕ
steps chain = length (listed chain.members) - 1

-- a shortest chain, or a group that shows that there is none
abbrev pub Answered : (S : ℕ → ℕ → Type 0) (start goal : ℕ) → Result Chain Group → Type 0
Answered S start goal (Ok chain) = IsShortest S start goal (listed chain.members) (steps chain)
Answered S start goal (Err group) = Separates S start goal group.bits

-- an answer between two members, and none where one of the numbers is no member
abbrev pub Searched : (S : ℕ → ℕ → Type 0) (start goal : ℕ) → Result Chain NoChain → Type 0
Searched S start goal (Ok chain) = (start < 64) × (goal < 64) × Answered S start goal (Ok chain)
Searched S start goal (Err NotMembers) = start < 64 → goal < 64 → ⊥
Searched S start goal (Err (Closed group)) = (start < 64) × (goal < 64) × Answered S start goal (Err group)
