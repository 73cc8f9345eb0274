-- Along a run: what holds of the states, the trusts that were set, and the tally at every depth.
use Rattle.std.proofs.Common.{◌≡◌, ℕ, zero, suc, ◌<◌, eqb, ◌⊎◌, List, [], ◌∷◌, ℤ, ◌+ℤ◌, ◌-ℤ◌, sym, refl, ap, ◌∙◌, subst, subst₂, inl, inr, arith}
use Rattle.credit.specs.declared.line.Line.{Line}
use Rattle.credit.specs.declared.payment.Payment.{Payment}
use Rattle.credit.specs.Sums.{only}
use Rattle.credit.specs.Net.{net}
use Rattle.credit.specs.Rooms.{trust}
use Rattle.rings.proofs.Rings.{shape}
use Rattle.ledger.specs.Debts.{debts, with_debts}
use Rattle.ledger.specs.States.{State}
use Rattle.ledger.proofs.Shapes.{shape_with_debts, with_debts_shape, with_debts_debts}
use Rattle.replay.specs.Runs.{Turn, latest, Run, reply}
use Rattle.replay.specs.History.{Event, pays, begins, keeps, undoes, other, event, trust_by, trust_set, tally_by, tally}
use Rattle.replay.specs.Law.{NetsTally}
use Rattle.replay.proofs.Keeps.{saves, Good, Follows, step_keeps}

-- each open group's saved nets are the tally before its begin
abbrev pub Levels : List Line → List (List ℤ) → (ℕ → ℕ → ℤ) → ℕ → Type 0
Levels sh [] f d = Unit {0}
Levels sh (ds ∷ dss) f d = ((m : ℕ) → m < 64 → net m (with_debts sh ds) ≡ f m (suc d)) × Levels sh dss f (suc d)

-- the net positions now and as at each begin are those of f, by the number of groups that are undone
pub record Counted (f : ℕ → ℕ → ℤ) (s : State) : Type 0 where
  pub now : (m : ℕ) → m < 64 → net m s.lines ≡ f m zero
  pub back : Levels (shape s.lines) (saves s.groups) f zero

abbrev pub next : Event → (ℕ → ℕ → ℤ) → ℕ → ℕ → ℤ
next v f m d = tally_by v m d (f m)

levels_pays : (pay : Payment) (sh : List Line) (dss : List (List ℤ)) (f : ℕ → ℕ → ℤ) (d : ℕ) → Levels sh dss f d → Levels sh dss (next (pays pay) f) d
levels_pays pay sh [] f d h = tt
levels_pays pay sh (ds ∷ dss) f d h = (h.0, levels_pays pay sh dss f (suc d) h.1)

levels_begins : (sh : List Line) (dss : List (List ℤ)) (f : ℕ → ℕ → ℤ) (d : ℕ) → Levels sh dss f d → Levels sh dss (next begins f) (suc d)
levels_begins sh [] f d h = tt
levels_begins sh (ds ∷ dss) f d h = (h.0, levels_begins sh dss f (suc d) h.1)

levels_keeps : (sh : List Line) (dss : List (List ℤ)) (f : ℕ → ℕ → ℤ) (d : ℕ) → Levels sh dss f (suc d) → Levels sh dss (next keeps f) d
levels_keeps sh [] f d h = tt
levels_keeps sh (ds ∷ dss) f d h = (h.0, levels_keeps sh dss f (suc d) h.1)

levels_undoes : (sh : List Line) (dss : List (List ℤ)) (f : ℕ → ℕ → ℤ) (d : ℕ) → Levels sh dss f (suc d) → Levels sh dss (next undoes f) d
levels_undoes sh [] f d h = tt
levels_undoes sh (ds ∷ dss) f d h = (h.0, levels_undoes sh dss f (suc d) h.1)

levels_other : (sh : List Line) (dss : List (List ℤ)) (f : ℕ → ℕ → ℤ) (d : ℕ) → Levels sh dss f d → Levels sh dss (next other f) d
levels_other sh [] f d h = tt
levels_other sh (ds ∷ dss) f d h = (h.0, levels_other sh dss f (suc d) h.1)

pub counted : (v : Event) (f : ℕ → ℕ → ℤ) (s s' : State) → Follows v s s' → Counted f s → Counted (next v f) s'
counted (pays pay) f s s' w c = record {
  now = λ m h. w.0 m h ∙ ap (λ (x : ℤ). (x -ℤ only (eqb m pay.payer) pay.amount) +ℤ only (eqb m pay.payee) pay.amount) (c.now m h);
  back = subst₂ (λ (sh : List Line) (dss : List (List ℤ)). Levels sh dss (next (pays pay) f) zero) (sym w.2) (sym w.1) (levels_pays pay (shape s.lines) (saves s.groups) f zero c.back);
}
counted begins f s s' w c = record {
  now = λ m h. ap (net m) w.0 ∙ c.now m h;
  back = subst₂ (λ (ls : List Line) (dss : List (List ℤ)). Levels (shape ls) dss (next begins f) zero) (sym w.0) (sym w.1)
      ((λ m h. ap (net m) (with_debts_shape s.lines (debts s.lines) ∙ with_debts_debts s.lines) ∙ c.now m h), levels_begins (shape s.lines) (saves s.groups) f zero c.back);
}
counted keeps f s s' w c =
    let lv : Levels (shape s.lines) (w.1 ∷ saves s'.groups) f zero = subst (λ (dss : List (List ℤ)). Levels (shape s.lines) dss f zero) w.2 c.back in
    record {
      now = λ m h. ap (net m) w.0 ∙ c.now m h;
      back = subst (λ (ls : List Line). Levels (shape ls) (saves s'.groups) (next keeps f) zero) (sym w.0) (levels_keeps (shape s.lines) (saves s'.groups) f zero lv.1);
    }
counted undoes f s s' w c =
    let lv : Levels (shape s.lines) (w.0 ∷ saves s'.groups) f zero = subst (λ (dss : List (List ℤ)). Levels (shape s.lines) dss f zero) w.2 c.back in
    record {
      now = λ m h. ap (net m) (w.1 ∙ sym (with_debts_shape s.lines w.0)) ∙ lv.0 m h;
      back = subst (λ (sh : List Line). Levels sh (saves s'.groups) (next undoes f) zero) (sym (ap shape w.1 ∙ shape_with_debts s.lines w.0)) (levels_undoes (shape s.lines) (saves s'.groups) f zero lv.1);
    }
counted other f s s' w c = record {
  now = λ m h. w.0 m h ∙ c.now m h;
  back = subst (λ (dss : List (List ℤ)). Levels (shape s'.lines) dss (next other f) zero) (sym w.1) (by w.2);
}
  where
    by : (shape s'.lines ≡ shape s.lines) ⊎ (saves s.groups ≡ []) → Levels (shape s'.lines) (saves s.groups) (next other f) zero
    by (inl e) = subst (λ (sh : List Line). Levels sh (saves s.groups) (next other f) zero) (sym e) (levels_other (shape s.lines) (saves s.groups) f zero c.back)
    by (inr e) = subst (λ (dss : List (List ℤ)). Levels (shape s'.lines) dss (next other f) zero) (sym e) tt

-- what holds after every run
pub record Known (es : List Turn) : Type 0 where
  pub good : Good (latest es)
  pub trusts : (i j : ℕ) → trust i j (latest es).lines ≡ trust_set es i j
  pub nets : (m : ℕ) → m < 64 → net m (latest es).lines ≡ tally m es zero
  counted_at : Counted (λ m d. tally m es d) (latest es)

pub known : (es : List Turn) → Run es → Known es
known [] r =
    record {
      good = record { bounds = refl; few = omega arith; pairs = refl; saved = tt; fitting = record { ok = refl; room_left = λ g. refl } };
      trusts = λ i j. refl;
      nets = λ m h. refl;
      counted_at = record { now = λ m h. refl; back = tt };
    }
known (e ∷ es) r =
    let k = known es r.1 in
    let o = step_keeps (latest es) e.call e.answer e.after k.good r.0 in
    let c = counted (event e.call (reply e.answer)) (λ m d. tally m es d) (latest es) e.after o.follows k.counted_at in
    record {
      good = o.good;
      trusts = λ i j. o.trusts i j ∙ ap (λ (v : ℤ). trust_by e.call (reply e.answer) i j v) (k.trusts i j);
      nets = c.now;
      counted_at = c;
    }

-- payments alone move net positions
pub tallied : (es : List Turn) → Run es → NetsTally es
tallied [] r = tt
tallied (e ∷ es) r = ((known (e ∷ es) r).nets, tallied es r.1)
