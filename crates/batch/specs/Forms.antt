-- The form that a line is.
use Rattle.std.specs.Prelude.{ℕ, cond, List, length, pos, Some, None, Ok, Err, codes, Option, Result, nat_lt, slice_index}
use Rattle.credit.specs.declared.payment.Payment.{Payment}
use Rattle.credit.specs.declared.refusal.Refusal.{Refusal}
use Rattle.credit.specs.declared.refusal.Refusal.TheVariants.{LineTooLong, UnknownForm}
use Rattle.batch.specs.declared.form.Form.{Form}
use Rattle.batch.specs.declared.form.Form.TheVariants.{Line, Pay, Try}
use Rattle.batch.specs.Grammar.{fixed_of, after}
use Rattle.batch.specs.Parts.{parts_of}

-- f of the numbers, unless they are refused
abbrev pub filled : {A : Type 0} → (List ℕ → A) → Result (List ℕ) Refusal → Result A Refusal
filled f (Ok ns) = Ok (f ns)
filled f (Err e) = Err e

-- a form of k numbers after its word, or what the line is else
abbrev pub word_or : ℕ → (List ℕ → Form) → Option (List ℕ) → Result Form Refusal → Result Form Refusal
word_or k f None else = else
word_or k f (Some rest) else = filled f (parts_of k rest)

abbrev pub line_of : List ℕ → Form
line_of ns = Line (slice_index ns 0) (slice_index ns 1) (pos (slice_index ns 2)) (pos (slice_index ns 3))

abbrev pub payment_of : List ℕ → Payment
payment_of ns = record { payer = slice_index ns 0; payee = slice_index ns 1; amount = pos (slice_index ns 2) }

abbrev pub pay_of : List ℕ → Form
pay_of ns = Pay (payment_of ns)

abbrev pub try_of : List ℕ → Form
try_of ns = Try (payment_of ns)

abbrev pub worded_of : List ℕ → Result Form Refusal
worded_of bs =
    word_or 4 line_of (after (codes "(line ") bs)
    (word_or 3 pay_of (after (codes "(pay ") bs)
    (word_or 3 try_of (after (codes "(try ") bs)
    (Err UnknownForm)))

abbrev pub fixed_or : Option Form → Result Form Refusal → Result Form Refusal
fixed_or None else = else
fixed_or (Some f) else = Ok f

-- a line of any length
unfoldable pub shape_of : List ℕ → Result Form Refusal
shape_of bs = fixed_or (fixed_of bs) (worded_of bs)

-- a line of a batch, without its line feed
abbrev pub form_of : List ℕ → Result Form Refusal
form_of bs = cond (nat_lt 40 (length bs)) (Err LineTooLong) (shape_of bs)
