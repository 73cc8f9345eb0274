-- Net positions and debts in words.
use Rattle.std.specs.Prelude.{ℕ, suc, cond, List, ◌++◌, ℤ, pos, negsuc, codes, decimal, ◌==◌}
use Rattle.explain.specs.Words.{minutes_of}

-- a member's net position: positive where it is owed, negative where it owes
abbrev pub balance_of : ℕ → ℤ → List ℕ
balance_of m (pos n) = cond (n == 0) (codes "Member " ++ (decimal m ++ codes " is even.")) (codes "Member " ++ (decimal m ++ (codes " is owed " ++ (minutes_of (pos n) ++ codes " on balance."))))
balance_of m (negsuc n) = codes "Member " ++ (decimal m ++ (codes " owes " ++ (minutes_of (pos (suc n)) ++ codes " on balance.")))

-- what b owes a
abbrev pub owing_of : ℕ → ℕ → ℤ → List ℕ
owing_of a b (pos n) = cond (n == 0) (codes "Members " ++ (decimal a ++ (codes " and " ++ (decimal b ++ codes " owe each other nothing.")))) (codes "Member " ++ (decimal b ++ (codes " owes member " ++ (decimal a ++ (codes " " ++ (minutes_of (pos n) ++ codes "."))))))
owing_of a b (negsuc n) = codes "Member " ++ (decimal a ++ (codes " owes member " ++ (decimal b ++ (codes " " ++ (minutes_of (pos (suc n)) ++ codes ".")))))
