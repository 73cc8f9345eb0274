-- A refusal that its own words tell.
use Rattle.std.proofs.Common.{◌≡◌, ℕ, ◌++◌, ℤ, codes, decimal, Option, refl}
use Rattle.members.specs.declared.group.Group.{Group}
use Rattle.credit.specs.declared.refusal.Refusal.{Refusal}
use Rattle.credit.specs.declared.refusal.Refusal.TheVariants.{WantOfRoom, LeftOpen}
use Rattle.credit.specs.Refusals.{number_of}
use Rattle.credit.specs.Sentences.{sentence}
use Rattle.batch.specs.declared.form.Form.{Form}
use Rattle.explain.specs.Asks.{lead_of}
use Rattle.explain.specs.Denials.{denial_of}

pub plain : (line : ℕ) (form : Option Form) (e : Refusal) → ((g : Group) (room : ℤ) → e ≡ WantOfRoom g room → ⊥) → (e ≡ LeftOpen → ⊥)
    → denial_of line form e ≡ lead_of line form ++ (codes "refused (" ++ (decimal (number_of e) ++ (codes "), " ++ (sentence e ++ codes "."))))
plain line form (WantOfRoom g room) h k = absurd (h g room refl)
plain line form LeftOpen h k = absurd (k refl)
plain line form e h k = refl
