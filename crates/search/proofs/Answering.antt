-- An answer of the search holds of every other relation that leads between the same members.
use Rattle.std.proofs.Common.{ℕ, ◌+◌, ◌<◌, List, get_or, Ok, Err, Result, arith}
use Rattle.lists.specs.Lists.{listed}
use Rattle.members.specs.declared.group.Group.{Group}
use Rattle.search.specs.Chains.{IsChain}
use Rattle.search.specs.Answers.{Answered, Searched, steps}
use Rattle.search.specs.declared.chain.Chain.{Chain}
use Rattle.search.specs.declared.chain.NoChain.{NoChain}
use Rattle.search.specs.declared.chain.NoChain.TheVariants.{NotMembers, Closed}

-- each step between members in S is one in T
abbrev pub Leads : (S T : ℕ → ℕ → Type 0) → Type 0
Leads S T = (m n : ℕ) → m < 64 → n < 64 → S m n → T m n

pub chain_map : (S T : ℕ → ℕ → Type 0) → Leads S T → (from to : ℕ) (c : List ℕ) (k : ℕ) → IsChain S from to c k → IsChain T from to c k
chain_map S T f from to c k h =
    record {
      long = h.long;
      first = h.first;
      last = h.last;
      members = h.members;
      linked = λ i l. f (get_or c i 0) (get_or c (i + 1) 0) (h.members i (omega arith)) (h.members (i + 1) (omega arith)) (h.linked i l);
    }

module _ (S T : ℕ → ℕ → Type 0) (f : Leads S T) (g : Leads T S) (from to : ℕ) where
  pub answered_map : (r : Result Chain Group) → Answered S from to r → Answered T from to r
  answered_map (Ok chain) a =
      record {
        chain = chain_map S T f from to (listed chain.members) (steps chain) a.chain;
        apart = a.apart;
        least = λ other j h. a.least other j (chain_map T S g from to other j h);
      }
  answered_map (Err group) a =
      record { inside = a.inside; outside = a.outside; closed = λ m n lm ln h step. a.closed m n lm ln h (g m n lm ln step) }

  pub searched_map : (r : Result Chain NoChain) → Searched S from to r → Searched T from to r
  searched_map (Ok chain) a = (a.0, a.1, answered_map (Ok chain) a.2)
  searched_map (Err NotMembers) a = a
  searched_map (Err (Closed group)) a = (a.0, a.1, answered_map (Err group) a.2)
