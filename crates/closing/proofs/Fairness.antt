-- Along a batch no reservation stands between its lines, and there is a mark for each open group.
use Rattle.std.proofs.Common.{◌≡◌, ℕ, Bool, true, false, cond, not, List, [], ◌∷◌, length, ℤ, Ok, Err, sym, refl, ap, ◌∙◌, arith}
use Rattle.credit.specs.declared.payment.Payment.{Payment}
use Rattle.credit.specs.declared.refusal.Refusal.{Refusal}
use Rattle.credit.specs.Refusals.{Verdict}
use Rattle.calls.specs.declared.call.Call.TheVariants.{Reserve}
use Rattle.calls.specs.declared.call.Answer.{Answer}
use Rattle.calls.specs.declared.call.Answer.TheVariants.{Done, Reserved, Released, Kept, Undone, Refused}
use Rattle.ledger.specs.States.{State, OpenGroup, with_groups}
use Rattle.ledger.specs.Checks.{inmost_spoiled, matches, pay_checks, open_checks, begin_checks, close_checks}
use Rattle.ledger.specs.Calls.{Does, Plain, Pays, Paid, Reserves, Held, opened, begun, closed, spoils, spoil_inmost, after_refusal}
use Rattle.batch.specs.declared.form.Form.{Form}
use Rattle.batch.specs.declared.form.Form.TheVariants.{Line, Pay, Try, Tidy, Route, All, Close}
use Rattle.closing.specs.Fairs.{Fair}
use Rattle.closing.specs.Carries.{Serves, LetGo, accepted, marks_after, drop_first}

-- a call that is refused, or leaves reservation and groups
plain : (v : Verdict) (s after : State) (good r : Answer) (s' : State) (marks more : List ℕ)
    → Plain v s good after r s' → accepted good ≡ true → Fair s marks → Fair after more → Fair s' (cond (accepted r) more marks)
plain (Err e) s after good r s' marks more d g f h =
    rw (d.0, d.1) f
plain (Ok u) s after good r s' marks more d g f h = rw (d.0, d.1, g) h

spoil_length : (gs : List OpenGroup) → length (spoil_inmost gs) ≡ length gs
spoil_length [] = refl
spoil_length (g ∷ gs) = refl

refused_like : (e : Refusal) (s : State) (marks : List ℕ) → Fair s marks → Fair (after_refusal e s) marks
refused_like e s marks f = go (spoils e)
  where
    go : (b : Bool) → Fair (cond b (with_groups s (spoil_inmost s.groups)) s) marks
    go true = record { free = f.free; even = f.even ∙ sym (spoil_length s.groups) }
    go false = f

paid : (v : Verdict) (plan : List ℤ) (s : State) (r : Answer) (s' : State) (marks : List ℕ) → Paid v plan s r s' → Fair s marks → Fair s' marks
paid (Ok u) plan s r s' marks d f = rw d.1 (record { free = f.free; even = f.even })
paid (Err e) plan s r s' marks d f = rw d.1 (refused_like e s marks f)

pays : (v : Verdict) (s : State) (pay : Payment) (r : Answer) (s' : State) (marks : List ℕ) → Pays v s pay r s' → Fair s marks → Fair s' marks
pays (Err e) s pay r s' marks d f = rw d.1 (refused_like e s marks f)
pays (Ok u) s pay r s' marks d f = paid d.0 d.1 s r s' marks d.3 f

-- a reservation that is released at once
let_go : (r : Answer) (s s' : State) (marks : List ℕ) → LetGo r s s' → ((e : Refusal) → r ≡ Refused e → Fair s marks) → length marks ≡ length s.groups → Fair s' marks
let_go Done s s' marks d f l = absurd d
let_go (Reserved pay) s s' marks d f l =
    let is : true ≡ matches s.standing pay = cc d.0 in
    rw (d.1, ← is) (record { free = refl; even = l })
let_go (Released b) s s' marks d f l = absurd d
let_go Kept s s' marks d f l = absurd d
let_go Undone s s' marks d f l = absurd d
let_go (Refused e) s s' marks d f l = rw d (f e refl)

-- what a reservation leaves: the groups, and where it is refused all
record Leaves (r : Answer) (s held : State) : Type 0 where
  groups : held.groups ≡ s.groups
  refused : (e : Refusal) → r ≡ Refused e → held ≡ s

held_leaves : (v : Verdict) (pay : Payment) (s : State) (r : Answer) (held : State) → Held v pay s r held → Leaves r s held
held_leaves (Ok u) pay s r held d =
    record { groups = ap (λ t. t.groups) d.1; refused = λ e k. cc (d.0, k) }
held_leaves (Err e) pay s r held d = record { groups = ap (λ t. t.groups) d.1; refused = λ f k. d.1 }

reserve_leaves : (v : Verdict) (s : State) (pay : Payment) (r : Answer) (held : State) → Reserves v s pay r held → Leaves r s held
reserve_leaves (Err e) s pay r held d = record { groups = ap (λ t. t.groups) d.1; refused = λ f k. d.1 }
reserve_leaves (Ok u) s pay r held d = held_leaves d.0 pay s r held d.3

tries : (s held : State) (pay : Payment) (r : Answer) (s' : State) (marks : List ℕ) → Does s (Reserve 256 pay) r held → LetGo r held s' → Fair s marks → Fair s' marks
tries s held pay r s' marks d g f =
    let l = reserve_leaves (pay_checks s 256 pay) s pay r held d in
    let_go r held s' marks g (λ e k. rw (l.refused e k) f) (f.even ∙ ap length (sym l.groups))

either : (b : Bool) (marks : List ℕ) (s : State) → Fair s marks → Fair s (cond b marks marks)
either true marks s f = f
either false marks s f = f

closed_fair : (s : State) (gs : List OpenGroup) (keep : Bool) (marks : List ℕ) → s.groups ≡ gs → Fair s marks → Fair (closed s gs keep) (drop_first marks)
closed_fair s [] keep [] e f = f
closed_fair s [] keep (l ∷ ls) e f = absurd (omega (arith, f.even, ap length e))
closed_fair s (g ∷ gs) keep [] e f = absurd (omega (arith, f.even, ap length e))
closed_fair s (g ∷ gs) keep (l ∷ ls) e f = record { free = f.free; even = omega (arith, f.even, ap length e) }

cases_accepted : (b : Bool) → accepted (cond b Undone Kept) ≡ true
cases_accepted true = refl
cases_accepted false = refl

-- a form keeps it
pub served : (f : Form) (s : State) (r : Answer) (s' : State) (l : ℕ) (marks : List ℕ) → Serves s f r s' → Fair s marks → Fair s' (marks_after f r l marks)
served (Line x y t u) s r s' l marks d f =
    plain (open_checks s x y t u) s (opened s x y t u) Done r s' marks marks d refl f (record { free = f.free; even = f.even })
served (Pay pay) s r s' l marks d f = either (accepted r) marks s' (pays (pay_checks s 256 pay) s pay r s' marks d f)
served (Try pay) s r s' l marks d f = either (accepted r) marks s' (tries s d.0 pay r s' marks d.1 d.2 f)
served Tidy s r s' l marks d f =
    either (accepted r) marks s' (rw d.3 (record { free = f.free; even = f.even }))
served (Route c) s r s' l marks d f = either (accepted r) marks s' (rw d.1 f)
served All s r s' l marks d f =
    plain (begin_checks s) s (begun s) Done r s' marks (l ∷ marks) d refl f (record { free = f.free; even = omega (arith, f.even) })
served Close s r s' l marks d f =
    plain (close_checks s) s (closed s s.groups (not (inmost_spoiled s.groups))) (cond (inmost_spoiled s.groups) Undone Kept) r s' marks (drop_first marks) d
    (cases_accepted (inmost_spoiled s.groups)) f (closed_fair s s.groups (not (inmost_spoiled s.groups)) marks refl f)
