-- What the router of each choice does with a payment.
use Rattle.std.specs.Prelude.{◌≡◌, List, ℤ, Ok, Err, Result}
use Rattle.members.specs.declared.group.Group.{Group}
use Rattle.credit.specs.declared.line.Line.{Line}
use Rattle.credit.specs.declared.payment.Payment.{Payment}
use Rattle.credit.specs.declared.refusal.Refusal.{Refusal}
use Rattle.credit.specs.Refusals.{Verdict}
use Rattle.routing.specs.Direct.{Directs}
use Rattle.routing.specs.Kept.{Keeps}
use Rattle.filling.specs.Fillings.{Scales}
use Rattle.batch.specs.declared.form.Form.{Form}
use Rattle.batch.specs.declared.form.Choice.{Choice}
use Rattle.batch.specs.declared.form.Choice.TheVariants.{Breadth, Scaling, Kept}
use Rattle.closing.specs.Carries.{NextPick}

-- direct first, scaling, or kept; before and after are the groups that kept remembers, of which the others touch none
abbrev pub ServedBy : Choice → List Line → Payment → List ℤ → List Group → Verdict → List ℤ → List Group → Type 0
ServedBy Breadth ls pay entry before r exit after = Directs ls pay entry r exit × (after ≡ before)
ServedBy Scaling ls pay entry before r exit after = Scales ls pay entry r exit × (after ≡ before)
ServedBy Kept ls pay entry before r exit after = Keeps ls pay entry before r exit after

-- which router is picked before a line of the batch and after it
abbrev pub PicksAt : Result Form Refusal → Choice → Choice → Type 0
PicksAt (Err e) before after = after ≡ before
PicksAt (Ok f) before after = NextPick f before after
