-- The forms of a batch line.
use Rattle.std.specs.Prelude.{ℕ, ◌-◌, cond, List, [], ◌∷◌, length, take, Some, None, codes, Option, ◌==◌, slice_index}
use Rattle.std.specs.Str.{bytes_eq}
use Rattle.batch.specs.declared.form.Choice.TheVariants.{Breadth, Scaling, Kept}
use Rattle.batch.specs.declared.form.Form.{Form}
use Rattle.batch.specs.declared.form.Form.TheVariants.{Tidy, Route, All, Close}

abbrev pub fixed_of : List ℕ → Option Form
fixed_of bs =
    cond (bytes_eq bs (codes "(tidy)")) (Some Tidy)
    (cond (bytes_eq bs (codes "(route breadth)")) (Some (Route Breadth))
    (cond (bytes_eq bs (codes "(route scaling)")) (Some (Route Scaling))
    (cond (bytes_eq bs (codes "(route kept)")) (Some (Route Kept))
    (cond (bytes_eq bs (codes "(all")) (Some All)
    (cond (bytes_eq bs (codes ")")) (Some Close)
    None)))))

-- what stands before a last `)`
abbrev pub closed : List ℕ → Option (List ℕ)
closed bs = cond (slice_index bs (length bs - 1) == 41) (Some (take (length bs - 1) bs)) None

-- what stands after the text p, where bs begins with it
abbrev pub after : List ℕ → List ℕ → Option (List ℕ)
after [] bs = Some bs
after (c ∷ p) [] = None
after (c ∷ p) (b ∷ bs) = cond (b == c) (after p bs) None
