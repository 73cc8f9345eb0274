-- The calls that a form asks of a ledger.
use Rattle.std.specs.Prelude.{List, [], ◌∷◌}
use Rattle.batch.specs.declared.form.Form.{Form}
use Rattle.batch.specs.declared.form.Form.TheVariants.{Line, Pay as PayForm, Try, Tidy as TidyForm, Route, All, Close}
use Rattle.calls.specs.declared.call.Call.{Call}
use Rattle.calls.specs.declared.call.Call.TheVariants.{Open, Pay, Reserve, Release, Begin, End, Tidy}

-- a try is a reservation and its release; a choice of router asks nothing
abbrev pub calls_of : Form → List Call
calls_of (Line x y t u) = Open x y t u ∷ []
calls_of (PayForm pay) = Pay 256 pay ∷ []
calls_of (Try pay) = Reserve 256 pay ∷ Release pay ∷ []
calls_of TidyForm = Tidy ∷ []
calls_of (Route c) = []
calls_of All = Begin ∷ []
calls_of Close = End ∷ []
