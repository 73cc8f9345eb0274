-- What a reader hands out.
use Rattle.std.specs.Prelude.{ℕ, suc, cond, List, [], ◌∷◌, Some, None, Option, ◌==◌}
use Rattle.batch.specs.declared.reader.Reader.{Reader}
use Rattle.batch.specs.declared.reader.Step.{Step}
use Rattle.batch.specs.Forms.{form_of}
use Rattle.batch.specs.Pieces.{onto}

-- the lines of a batch: a line feed ends a line, and the last line may lack it
abbrev pub lines_of : List ℕ → List (List ℕ)
lines_of [] = []
lines_of (b ∷ bs) = cond (b == 10) ([] ∷ lines_of bs) (onto b (lines_of bs))

-- the forms of the lines, of which n stand before the first
abbrev pub numbered : ℕ → List (List ℕ) → List Step
numbered n [] = []
numbered n (l ∷ ls) = record { line = suc n; form = form_of l } ∷ numbered (suc n) ls

abbrev pub steps_of : List ℕ → List Step
steps_of batch = numbered 0 (lines_of batch)

-- what a reader has yet to hand out
abbrev pub left : Reader → List Step
left r = numbered r.line (lines_of r.rest.now)

abbrev pub head_of : List Step → Option Step
head_of [] = None
head_of (s ∷ ss) = Some s

abbrev pub tail_of : List Step → List Step
tail_of [] = []
tail_of (s ∷ ss) = ss
