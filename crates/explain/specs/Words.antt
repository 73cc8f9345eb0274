-- Minutes and members in words.
use Rattle.std.specs.Prelude.{ℕ, cond, List, [], ◌∷◌, ◌++◌, ℤ, pos, negsuc, codes, decimal, ◌==◌}
use Rattle.std.specs.Fmt.{signed_decimal}

abbrev pub unit_of : ℤ → List ℕ
unit_of (pos n) = cond (n == 1) (codes "minute") (codes "minutes")
unit_of (negsuc n) = codes "minutes"

abbrev pub minutes_of : ℤ → List ℕ
minutes_of z = signed_decimal z ++ (codes " " ++ unit_of z)

-- the member m of several and those after it: each after a comma, the last after `and`
abbrev pub names_on : ℕ → List ℕ → List ℕ
names_on m [] = codes " and " ++ decimal m
names_on m (n ∷ ms) = codes ", " ++ (decimal m ++ names_on n ms)

abbrev pub names_of : List ℕ → List ℕ
names_of [] = codes "no member"
names_of (m ∷ []) = codes "member " ++ decimal m
names_of (m ∷ n ∷ ms) = codes "members " ++ (decimal m ++ (names_on n ms ++ codes " together"))
