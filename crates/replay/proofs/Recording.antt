-- A run as it is recorded, call by call.
use Rattle.std.proofs.Common.{◌≡◌, List, [], ◌∷◌, ◌++◌, map, reverse, ℤ, vec_items, sym, refl, ap, ◌∙◌, subst, subst₂}
use Rattle.std.proofs.lemmas.List.{reverse-append}
use Rattle.credit.specs.Net.{net_table}
use Rattle.calls.specs.declared.call.Call.{Call}
use Rattle.calls.specs.declared.call.Answer.{Answer}
use Rattle.ledger.specs.States.{State, fresh}
use Rattle.ledger.specs.Calls.{Does}
use Rattle.replay.specs.declared.entry.Entry.{Entry}
use Rattle.replay.specs.declared.replay.Journal.{Journal}
use Rattle.replay.specs.Runs.{Turn, latest, Run, calls}
use Rattle.replay.specs.Records.{entry_of, Closed, ClosedTwice}
use Rattle.replay.proofs.Agree.{law}

-- these calls led to this state, and left these entries
pub record Recorded (s : State) (cs : List Call) (es : List Entry) : Type 0 where
  pub turns : List Turn
  pub run : Run turns
  pub at : latest turns ≡ s
  pub over : calls turns ≡ reverse cs
  pub shown : map entry_of turns ≡ reverse es

pub recorded_none : (s : State) → s ≡ fresh → Recorded s [] []
recorded_none s e = record { turns = []; run = tt; at = sym e; over = refl; shown = refl }

pub recorded_more : (s : State) (cs : List Call) (es : List Entry) (c : Call) (r : Answer) (s' : State) → Recorded s cs es → Does s c r s' → Recorded s' (cs ++ c ∷ []) (es ++ record { call = c; answer = r; nets = net_table s'.lines } ∷ [])
recorded_more s cs es c r s' k d = record {
  turns = record { call = c; answer = r; after = s' } ∷ k.turns;
  run = (subst (λ (v : State). Does v c r s') (sym k.at) d, k.run);
  at = refl;
  over = ap (λ (v : List Call). c ∷ v) k.over ∙ sym (reverse-append cs (c ∷ []));
  shown = ap (λ (v : List Entry). record { call = c; answer = r; nets = net_table s'.lines } ∷ v) k.shown ∙ sym (reverse-append es (record { call = c; answer = r; nets = net_table s'.lines } ∷ []));
}

-- the same, as the code has it
pub recorded_push : (s : State) (cs cs' : List Call) (es es' : List Entry) (c : Call) (r : Answer) (s' : State) (nets : List ℤ) → Recorded s cs es → Does s c r s' → nets ≡ net_table s'.lines → cs' ≡ cs ++ c ∷ [] → es' ≡ es ++ record { call = c; answer = r; nets = nets } ∷ [] → Recorded s' cs' es'
recorded_push s cs cs' es es' c r s' nets k d n x y =
    subst₂ (λ (v : List Call) (w : List Entry). Recorded s' v w) (sym x) (sym (y ∙ ap (λ (v : List ℤ). es ++ record { call = c; answer = r; nets = v } ∷ []) n)) (recorded_more s cs es c r s' k d)

pub recorded_closed : (s : State) (cs : List Call) (j : Journal) → Recorded s cs (vec_items j.entries) → vec_items j.lines ≡ s.lines → Closed cs j
recorded_closed s cs j k e = record { turns = k.turns; run = k.run; over = k.over; shown = k.shown; left = ap (λ (v : State). v.lines) k.at ∙ sym e }

pub closed_twice : (cs : List Call) (j k : Journal) → Closed cs j → Closed cs k → ClosedTwice cs j k
closed_twice cs j k a b = record { one = a; other = b; lawful = law a.turns b.turns a.run b.run (a.over ∙ sym b.over) }
