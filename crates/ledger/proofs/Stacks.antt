-- The savepoints as the code keeps them, the inmost last, and as a state shows them, the inmost first.
use Rattle.std.proofs.Common.{◌≡◌, ℕ, zero, suc, ◌<◌, Bool, true, List, [], ◌∷◌, ◌++◌, map, reverse, length, get_or, take, set, sym, refl, ap, ◌∙◌, arith}
use Rattle.std.proofs.lemmas.Bool.{and_parts, and_from}
use Rattle.std.proofs.lemmas.List.{reverse-append, length-reverse, length-map}
use Rattle.credit.specs.Sums.{every}
use Rattle.credit.proofs.Sums.{every_at, every_set}
use Rattle.ledger.specs.declared.state.Savepoint.{Savepoint}
use Rattle.ledger.specs.States.{OpenGroup, open_group}
use Rattle.ledger.specs.Checks.{none_open}
use Rattle.ledger.specs.Calls.{spoil_inmost}

abbrev groups_of : List Savepoint → List OpenGroup
groups_of sps = map open_group (reverse sps)

abbrev pub marked : Savepoint → Savepoint
marked sp = record { debts = sp.debts; spoiled = true }

groups_length : (sps : List Savepoint) → length (groups_of sps) ≡ length sps
groups_length sps = length-map (reverse sps) open_group ∙ length-reverse sps

-- where no group is open there is no savepoint
pub open_none : (sps : List Savepoint) → none_open (groups_of sps) ≡ true → sps ≡ []
open_none [] h = cc
open_none (x ∷ sps) h = go (groups_of (x ∷ sps)) (groups_length (x ∷ sps)) h
  where
    go : (gs : List OpenGroup) → length gs ≡ length (x ∷ sps) → none_open gs ≡ true → x ∷ sps ≡ []
    go [] e k = absurd (omega arith)
    go (g ∷ gs) e k = cc

pub none_open_lem : (sps : List Savepoint) → length sps ≡ 0 → none_open (groups_of sps) ≡ true
none_open_lem [] h = refl
none_open_lem (x ∷ sps) h = absurd (omega arith)

-- ---- a test that every savepoint passes
pub every_push : {X : Type 0} (p : X → Bool) (xs : List X) (x : X) → every p xs ≡ true → p x ≡ true → every p (xs ++ x ∷ []) ≡ true
every_push p [] x h k = and_from (p x) true k refl
every_push p (y ∷ xs) x h k =
    let f = and_parts (p y) (every p xs) h in
    and_from (p y) (every p (xs ++ x ∷ [])) f.0 (every_push p xs x f.1 k)

pub every_front : {X : Type 0} (p : X → Bool) (xs ys : List X) → every p (xs ++ ys) ≡ true → every p xs ≡ true
every_front p [] ys h = refl
every_front p (x ∷ xs) ys h =
    let f = and_parts (p x) (every p (xs ++ ys)) h in
    and_from (p x) (every p xs) f.0 (every_front p xs ys f.1)

pub every_last : {X : Type 0} (p : X → Bool) (xs : List X) (x : X) → every p (xs ++ x ∷ []) ≡ true → p x ≡ true
every_last p [] x h = (and_parts (p x) true h).0
every_last p (y ∷ xs) x h = every_last p xs x (and_parts (p y) (every p (xs ++ x ∷ [])) h).1

-- one that looks at the debts alone, and a savepoint marked as spoiled
pub every_mark : (p : Savepoint → Bool) (sps : List Savepoint) (i : ℕ) (x : Savepoint) → i < length sps → x ≡ get_or sps i x → p (marked x) ≡ p x → every p sps ≡ true → every p (set sps i (marked x)) ≡ true
every_mark p sps i x h e same k = every_set p sps i (marked x) k (same ∙ ap p e ∙ every_at p sps i x k h)

-- ---- marking the last savepoint spoils the inmost group
-- a list of which i is the last place
last_split : {X : Type 0} (xs : List X) (i : ℕ) (d : X) → length xs ≡ suc i → xs ≡ take i xs ++ get_or xs i d ∷ []
last_split [] i d h = absurd (omega arith)
last_split (x ∷ []) zero d h = refl
last_split (x ∷ (y ∷ xs)) zero d h = absurd (omega arith)
last_split (x ∷ xs) (suc i) d h = ap (λ t. x ∷ t) (last_split xs i d (omega arith))

last_set : {X : Type 0} (xs : List X) (i : ℕ) (v : X) → length xs ≡ suc i → set xs i v ≡ take i xs ++ v ∷ []
last_set [] i v h = absurd (omega arith)
last_set (x ∷ []) zero v h = refl
last_set (x ∷ (y ∷ xs)) zero v h = absurd (omega arith)
last_set (x ∷ xs) (suc i) v h = ap (λ t. x ∷ t) (last_set xs i v (omega arith))

groups_push : (sps : List Savepoint) (sp : Savepoint) → groups_of (sps ++ sp ∷ []) ≡ open_group sp ∷ groups_of sps
groups_push sps sp = ap (map open_group) (reverse-append sps (sp ∷ []))

pub groups_mark : (sps : List Savepoint) (i : ℕ) (x : Savepoint) → length sps ≡ suc i → x ≡ get_or sps i x → groups_of (set sps i (marked x)) ≡ spoil_inmost (groups_of sps)
groups_mark sps i x h e =
    ap groups_of (last_set sps i (marked x) h)
    ∙ groups_push (take i sps) (marked x)
    ∙ ap (λ y. open_group (marked y) ∷ groups_of (take i sps)) e
    ∙ ap spoil_inmost (sym (ap groups_of (last_split sps i x h) ∙ groups_push (take i sps) (get_or sps i x)))
