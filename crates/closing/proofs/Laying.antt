-- A batch that is carried out leaves a sheet of answers, left groups and a statement.
use Rattle.std.proofs.Common.{◌≡◌, ℕ, suc, ◌+◌, ◌<◌, ◌≤◌, Bool, true, false, cond, List, [], ◌∷◌, ◌++◌, length, Ok, Err, Result, sym, refl, ap, ◌∙◌, inl, inr, append_assoc, arith}
use Rattle.std.proofs.lemmas.List.{nil_from_length}
use Rattle.credit.specs.declared.refusal.Refusal.{Refusal}
use Rattle.credit.specs.Refusals.{Verdict, passes}
use Rattle.calls.specs.declared.call.Answer.{Answer}
use Rattle.calls.specs.declared.call.Answer.TheVariants.{Done, Reserved, Released, Kept, Undone, Refused}
use Rattle.ledger.specs.States.{State}
use Rattle.batch.specs.declared.form.Form.{Form}
use Rattle.batch.specs.declared.form.Form.TheVariants.{Line, Pay, Try, Tidy, Route, All, Close}
use Rattle.batch.specs.declared.reader.Step.{Step}
use Rattle.batch.specs.declared.sheet.SheetLine.{SheetLine}
use Rattle.batch.specs.Forms.{form_of}
use Rattle.batch.specs.Reads.{lines_of, numbered, steps_of}
use Rattle.closing.specs.Statements.{statement}
use Rattle.closing.specs.Carries.{printed, ends, accepted, drop_first, marks_by, Place, at, Stepped, After, Carries}
use Rattle.closing.specs.Closes.{door_checks, Abandons, Carried, ClosesBy, Closes}
use Rattle.closing.specs.Fairs.{Fair}
use Rattle.closing.specs.Batches.{Closing}
use Rattle.closing.specs.Lays.{line_of, is_last, Unless, Answers, BeginsAt, LeftGroups, Parts, LaidBy, Laid}

-- ---- answers
printed_laid : (f : Form) (l : ℕ) (r : Answer) → (line_of (printed l r) ≡ l) × (is_last (Ok f) (printed l r) ≡ ends r)
printed_laid f l Done = (refl, refl)
printed_laid f l (Reserved pay) = (refl, refl)
printed_laid f l (Released b) = (refl, refl)
printed_laid f l Kept = (refl, refl)
printed_laid f l Undone = (refl, refl)
printed_laid f l (Refused e) = (refl, refl)

stepped_laid : (f : Result Form Refusal) (l : ℕ) (from : Place) (x : SheetLine) (over : Bool) (to : Place) → Stepped f l from x over to → (line_of x ≡ l) × (is_last f x ≡ over)
stepped_laid (Err e) l from x over to d = (ap line_of d.0, sym d.1)
stepped_laid (Ok f) l from x over to d =
    let k = printed_laid f l d.0 in
    (ap line_of d.2 ∙ k.0, ap (is_last (Ok f)) d.2 ∙ k.1 ∙ sym d.3)

carries_answers : (steps : List Step) (from : Place) (xs : List SheetLine) (to : Place) → Carries steps from xs to → Answers steps xs
carries_answers [] from xs to d = d.0
carries_answers (s ∷ ss) from xs to d =
    let k = stepped_laid s.form s.line from d.0 d.1 d.2 d.4 in
    (d.0, d.3, d.5, k.0, rw k.1 (go d.1 d.6 (carries_answers ss d.2 d.3 to)))
  where
    go : (over : Bool) → After over (Carries ss) d.2 d.3 to → (Carries ss d.2 d.3 to → Answers ss d.3) → Unless over (Answers ss) d.3
    go true c next = c.0
    go false c next = next c

-- ---- the marks of open groups: lines of an `(all`, falling from below a bound
abbrev Begun : List Step → ℕ → List ℕ → Type 0
Begun all bound [] = Unit {0}
Begun all bound (l ∷ ls) = (l < bound) × BeginsAt all l × Begun all l ls

wider : (all : List Step) (b c : ℕ) (ms : List ℕ) → b ≤ c → Begun all b ms → Begun all c ms
wider all b c [] h k = tt
wider all b c (m ∷ ms) h k = (omega (arith, k.0), k.1, k.2)

dropped : (all : List Step) (b : ℕ) (ms : List ℕ) → Begun all b ms → Begun all b (drop_first ms)
dropped all b [] k = tt
dropped all b (m ∷ ms) k = wider all m b ms (omega (arith, k.0)) k.2

-- after the form of line n, by the marks that it keeps
marks_by_lem : (all : List Step) (n : ℕ) (f : Form) (ms : List ℕ) → (f ≡ All → BeginsAt all n) → Begun all n ms → Begun all (suc n) ms → Begun all (suc n) (marks_by f n ms)
marks_by_lem all n (Line x y t u) ms h k kept = kept
marks_by_lem all n (Pay pay) ms h k kept = kept
marks_by_lem all n (Try pay) ms h k kept = kept
marks_by_lem all n Tidy ms h k kept = kept
marks_by_lem all n (Route c) ms h k kept = kept
marks_by_lem all n All ms h k kept = (omega arith, h refl, k)
marks_by_lem all n Close ms h k kept = dropped all (suc n) ms kept

stepped_marks : (all : List Step) (n : ℕ) (f : Result Form Refusal) (from : Place) (x : SheetLine) (over : Bool) (to : Place)
    → (f ≡ Ok All → BeginsAt all (suc n)) → Begun all (suc n) from.marks → Stepped f (suc n) from x over to → Begun all (suc (suc n)) to.marks
stepped_marks all n (Err e) from x over to h k d =
    rw d.2 (wider all (suc n) (suc (suc n)) from.marks (omega arith) k)
stepped_marks all n (Ok f) from x over to h k d = rw d.4 (go (accepted d.0))
  where
    kept : Begun all (suc (suc n)) from.marks
    kept = wider all (suc n) (suc (suc n)) from.marks (omega arith) k

    go : (b : Bool) → Begun all (suc (suc n)) (cond b (marks_by f (suc n) from.marks) from.marks)
    go true = marks_by_lem all (suc n) f from.marks (λ e. h (ap Ok e)) k kept
    go false = kept

carries_marks : (all : List Step) (n : ℕ) (ls : List (List ℕ)) (from : Place) (xs : List SheetLine) (to : Place)
    → ((l : ℕ) → BeginsAt (numbered n ls) l → BeginsAt all l) → Begun all (suc n) from.marks → Carries (numbered n ls) from xs to → Begun all (suc (n + length xs)) to.marks
carries_marks all n [] from xs to inc k d =
    rw d.1 (wider all (suc n) (suc (n + length xs)) from.marks (omega arith) k)
carries_marks all n (l ∷ ls) from xs to inc k d =
    let after = stepped_marks all n (form_of l) from d.0 d.1 d.2 (λ e. inc (suc n) (inl (refl, e))) k d.4 in
    go d.1 d.6 after (λ c. carries_marks all (suc n) ls d.2 d.3 to (λ m b. inc m (inr b)) after c)
  where
    long : length xs ≡ suc (length d.3)
    long = ap length d.5

    go : (over : Bool) → After over (Carries (numbered (suc n) ls)) d.2 d.3 to → Begun all (suc (suc n)) d.2.marks
        → (Carries (numbered (suc n) ls) d.2 d.3 to → Begun all (suc (suc n + length d.3)) to.marks) → Begun all (suc (n + length xs)) to.marks
    go true c b next = rw c.1 (wider all (suc (suc n)) (suc (n + length xs)) d.2.marks (omega (arith, long)) b)
    go false c b next = wider all (suc (suc n + length d.3)) (suc (n + length xs)) to.marks (omega (arith, long)) (next c)

abandons_left : (all : List Step) (b : ℕ) (ms : List ℕ) (s : State) (xs : List SheetLine) (s' : State) → Begun all b ms → Abandons ms s xs s' → LeftGroups all b xs
abandons_left all b [] s xs s' k d = rw d.0 tt
abandons_left all b (m ∷ ms) s xs s' k d =
    rw d.3 (m, refl, k.0, k.1, abandons_left all m ms d.0 d.1 s' k.2 d.4)

-- ---- a whole sheet
carried_laid : (s : State) (batch : List ℕ) (sheet : List SheetLine) (s' : State) → Carried s batch sheet s' → Parts batch sheet s'
carried_laid s batch sheet s' c = record {
  answers = c.answers;
  left = c.ended.left;
  are = c.sheet_is ∙ ap (λ (v : List SheetLine). v ++ statement s'.lines) c.ended.sheet_is ∙ append_assoc c.answers c.ended.left (statement s'.lines);
  answered = carries_answers (steps_of batch) (at s []) c.answers c.place c.carries;
  abandoned = abandons_left (steps_of batch) (suc (length c.answers)) c.place.marks c.place.state c.ended.left s'
      (wider (steps_of batch) (suc (0 + length c.answers)) (suc (length c.answers)) c.place.marks (omega arith)
      (carries_marks (steps_of batch) 0 (lines_of batch) (at s []) c.answers c.place (λ l b. b) tt c.carries))
      c.ended.abandons;
}

closes_laid : (s : State) (batch : List ℕ) (sheet : List SheetLine) (s' : State) → Closes s batch sheet s' → Laid s batch sheet s'
closes_laid s batch sheet s' c = go (door_checks s batch) c
  where
    go : (v : Verdict) → ClosesBy v s batch sheet s' → LaidBy v batch sheet s'
    go (Err e) c = c.0
    go (Ok u) c = carried_laid s batch sheet s' c

-- a batch past its door whose groups are all closed
pub carried_closing : (s : State) (batch : List ℕ) (sheet : List SheetLine) (s' : State) → door_checks s batch ≡ passes → Carried s batch sheet s' → Fair s' [] → Closing s batch sheet s'
carried_closing s batch sheet s' e c f =
    let closes : Closes s batch sheet s' = rw e c in
    record { closes = closes; laid = closes_laid s batch sheet s' closes; settled = inr (nil_from_length s'.groups (sym f.even), f.free) }
