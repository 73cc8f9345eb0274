use Rattle.std.proofs.Common.{◌≡◌, ℕ, ◌<◌, true, length, get_or, pos, sym, ap, ◌∙◌, subst, arith, w32, SFits, rules, length-append}
use Rattle.std.proofs.lemmas.Int.{to_z-of_z}
use Rattle.std.proofs.lemmas.List.{take_all}
use Rattle.std.proofs.lemmas.Slice.Zip.{zip_turn, zip_end}
use Rattle.credit.specs.Net.{no_line, bounded}
use Rattle.credit.specs.Plans.{moved}
use Rattle.credit.proofs.Sums.{every_at}
use Rattle.credit.proofs.Booked.{booked_any, length_booked}
use Rattle.search.specs.Rowed.{reaches}
use Rattle.filling.proofs.Filled.{usable_facts}
use Rattle.filling.proofs.Rowing.{any_leads, any_more, any_step, step_any}
use Rattle.filling.proofs.booked.Booked.graph.Goals as goal
use Rattle.filling.proofs.booked.Booked.graph.Goals.{In-Some, In-None}

-- this turn's line and number: within bounds, and once the number is moved the next of the booked lines
turn : (c : In-Some) → (bounded c.in-Some.line.now ≡ true) × (length c.loop-line.yielded < length c.args.self.now)
    × (moved c.in-Some.line.now c.in-Some.planned.now ≡ get_or c.args.self.now (length c.loop-line.yielded) no_line)
turn c =
    let ls = c.self.inside.lines.now in
    let xs = c.self.inside.plan.now in
    let i = length c.loop-line.yielded in
    let t = zip_turn ls xs c.loop-line.yielded c.into_iter-line-iterator.result c.loop-line.line-iterator c.next.new.self c.next.result
    (search rules) (search rules) c.loop-line.yielded_by (c.in-Some.line, c.in-Some.planned) c.in-Some.is c.next.ensures.steps in (
      rw (t.2 no_line) (every_at bounded ls i no_line (usable_facts ls xs c.self.invariant).sound t.0),
      subst (λ l. i < length l) c.self.view_is (omega (arith, t.0, length_booked ls xs)),
      rw (t.2 no_line, t.3 (pos 0)) (sym (booked_any ls xs i t.0)) ∙ ap (λ l. get_or l i no_line) c.self.view_is,
    )

pub add_line-requires : goal.add_line-requires
add_line-requires c = (turn (goal.at.add_line-requires c).In-Some).0

pub loop-line-preserved : goal.loop-line-preserved
loop-line-preserved c m n =
    let t = turn (goal.at.loop-line-preserved c).In-Some in
    let f : SFits w32 c.in-Some.planned.now = search rules in
    let e = simp to_z-of_z at c.add_line.ensures m n in
    let s = any_more c.args.self.now (pos c.args.least) m n (length c.loop-line.yielded) _ _ _ t.1 t.2 (c.loop-line.invariant m n) e in
    search (rules, length-append)

-- every line was gone over
all : (c : In-None) (m n : ℕ) → reaches c.loop-line.rows m n ≡ any_leads c.args.self.now (pos c.args.least) m n
all c m n =
    let ls = c.self.inside.lines.now in
    let xs = c.self.inside.plan.now in
    let e = zip_end ls xs c.loop-line.yielded c.into_iter-line-iterator.result c.loop-line.line-iterator c.next.new.self c.next.result
    (search rules) (search rules) c.loop-line.yielded_by c.in-None.is c.next.ensures.steps in
    let n' = ap (λ l. length l) (sym c.self.view_is) in
    c.loop-line.invariant m n
    ∙ ap (λ l. any_leads l (pos c.args.least) m n) (take_all (length c.loop-line.yielded) c.args.self.now (omega (arith, e, n', (usable_facts ls xs c.self.invariant).long, length_booked ls xs)))

pub returns : goal.returns
returns c = record {
  sound = λ m n h. any_step c.args.self.now (pos c.args.least) m n (sym (all c m n) ∙ h);
  complete = λ m n s. all c m n ∙ step_any c.args.self.now (pos c.args.least) m n s;
}
