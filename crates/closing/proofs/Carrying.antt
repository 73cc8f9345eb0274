-- How many lines a batch has, and the first of them.
use Rattle.std.proofs.Common.{◌≡◌, ℕ, suc, ◌≤◌, Bool, true, false, cond, eqb, List, [], ◌∷◌, length, Some, None, refl, ap, arith}
use Rattle.batch.specs.declared.reader.Step.{Step}
use Rattle.batch.specs.Pieces.{onto}
use Rattle.batch.specs.Reads.{lines_of, numbered, steps_of, head_of, tail_of}

onto_length : (b : ℕ) (ps : List (List ℕ)) → length (onto b ps) ≤ suc (length ps)
onto_length b [] = omega arith
onto_length b (p ∷ ps) = omega arith

lines_few : (bs : List ℕ) → length (lines_of bs) ≤ length bs
lines_few [] = omega arith
lines_few (b ∷ bs) = go (eqb b 10) (lines_few bs)
  where
    go : (t : Bool) → length (lines_of bs) ≤ length bs → length (cond t ([] ∷ lines_of bs) (onto b (lines_of bs))) ≤ suc (length bs)
    go true h = omega arith
    go false h = omega (arith, onto_length b (lines_of bs))

numbered_length : (n : ℕ) (ls : List (List ℕ)) → length (numbered n ls) ≡ length ls
numbered_length n [] = refl
numbered_length n (l ∷ ls) = ap suc (numbered_length (suc n) ls)

-- a batch has no more lines than bytes
pub steps_few : (batch : List ℕ) → length (steps_of batch) ≤ length batch
steps_few batch = omega (arith, numbered_length 0 (lines_of batch), lines_few batch)

-- the first line, and those after it
pub head_some : (steps : List Step) (s : Step) → Some s ≡ head_of steps → steps ≡ s ∷ tail_of steps
head_some [] s e = cc
head_some (t ∷ ts) s e = let k : t ≡ s = cc in ap (λ x. x ∷ ts) k

pub head_none : (steps : List Step) → None ≡ head_of steps → steps ≡ []
head_none [] e = refl
head_none (t ∷ ts) e = cc
