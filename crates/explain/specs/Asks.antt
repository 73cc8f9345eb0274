-- What a line of a batch asks, in words.
use Rattle.std.specs.Prelude.{ℕ, cond, List, [], ◌++◌, Some, None, codes, decimal, Option, ◌==◌}
use Rattle.credit.specs.declared.payment.Payment.{Payment}
use Rattle.batch.specs.declared.form.Choice.{Choice}
use Rattle.batch.specs.declared.form.Choice.TheVariants.{Breadth, Scaling, Kept}
use Rattle.batch.specs.declared.form.Form.{Form}
use Rattle.batch.specs.declared.form.Form.TheVariants.{Line, Pay, Try, Tidy, Route, All, Close}
use Rattle.explain.specs.Words.{minutes_of}

abbrev pub router_of : Choice → List ℕ
router_of Breadth = codes "breadth"
router_of Scaling = codes "scaling"
router_of Kept = codes "kept"

-- who is paid, and how much
abbrev pub paid_of : Payment → List ℕ
paid_of pay = codes "member " ++ (decimal pay.payee ++ (codes " " ++ minutes_of pay.amount))

abbrev pub asks_of : Form → List ℕ
asks_of (Line a b t u) = codes "member " ++ (decimal a ++ (codes " trusts member " ++ (decimal b ++ (codes " for " ++ (minutes_of t ++ (codes " and is trusted for " ++ minutes_of u))))))
asks_of (Pay pay) = codes "member " ++ (decimal pay.payer ++ (codes " pays " ++ paid_of pay))
asks_of (Try pay) = codes "member " ++ (decimal pay.payer ++ (codes " tries to pay " ++ paid_of pay))
asks_of Tidy = codes "rings of debt are cancelled"
asks_of (Route c) = codes "payments are routed by " ++ (router_of c ++ codes " from here on")
asks_of All = codes "a group of payments begins"
asks_of Close = codes "the group of payments ends"

-- what a form asks, where there is one
abbrev pub wished : Option Form → List ℕ
wished None = []
wished (Some form) = asks_of form ++ codes ": "

-- the line that a sentence is about, and what it asks; line 0 is the whole batch
abbrev pub lead_of : ℕ → Option Form → List ℕ
lead_of line form = cond (line == 0) (codes "The whole batch: ") (codes "Line " ++ (decimal line ++ (codes ": " ++ wished form)))
