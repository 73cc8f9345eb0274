-- The members of a group, listed, take at most 192 bytes.
use Rattle.std.proofs.Common.{ℕ, zero, suc, ◌+◌, ◌*◌, ◌≤◌, length, decimal, ⊎_elim, arith, length-append}
use Rattle.std.proofs.lemmas.Fmt.{length-decimal-le}
use Rattle.std.proofs.lemmas.Bool.{cases_Bool}
use Rattle.members.specs.Groups.{inside, members_from, members_of}
use Rattle.batch.specs.Sheets.{listed}

members : (k m g : ℕ) → m + k ≤ 64 → length (listed (members_from k m g)) ≤ 3 * k
unfolding members_from
members zero m g h = omega arith
members (suc k) m g h =
    let on = members k (suc m) g (omega arith) in
    let two = length-decimal-le 2 m (omega arith) (omega arith) (omega arith) in
    ⊎_elim
    (λ e. rw e (omega (arith, on, two, length-append (decimal m) (listed (members_from k (suc m) g)))))
    (λ e. rw e (omega (arith, on)))
    (cases_Bool (inside g m))

pub group : (g : ℕ) → length (listed (members_of g)) ≤ 192
unfolding members_of
group g = members 64 0 g (omega arith)
