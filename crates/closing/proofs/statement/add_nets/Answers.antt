use Rattle.std.proofs.Common.{◌≡◌, ℕ, ◌++◌, map, length, ℤ, vec_items, Bor, sym, refl, ap, ◌∙◌, arith}
use Rattle.std.specs.List.{range_with_len}
use Rattle.std.proofs.lemmas.Int.{ints}
use Rattle.std.proofs.lemmas.Iterator.{YieldsList-from_range, YieldsList-from_slice, YieldsList-from_zip}
use Rattle.std.proofs.lemmas.Iterator.Consumers.{YieldsList-turn, YieldsList-end}
use Rattle.std.proofs.lemmas.List.{length-map}
use Rattle.std.proofs.lemmas.Simd.{map-map}
use Rattle.std.proofs.lemmas.Slice.Zip.{firsts-zip}
use Rattle.credit.specs.Net.{net, net_table}
use Rattle.closing.specs.Statements.{net_lines}
use Rattle.closing.proofs.Stated.{paired}
use Rattle.closing.proofs.statement.add_nets.Goals as goal

pub add_net-requires-clause-value : goal.add_net-requires-clause-value
add_net-requires-clause-value c =
    let ls = c.args.lines.now in
    let members = range_with_len 0 64 in
    let turn = YieldsList-turn (YieldsList-from_zip {s = c.into_iter-member-iterator.result} (YieldsList-from_range 0 64 64 (cc) refl) (YieldsList-from_slice (net_table ls) (cc)))
    c.loop-member.yielded c.loop-member.member-iterator c.loop-member.yielded_by _ c.next.new.self _ c.in-Some.is c.next.ensures.steps in
    let is : c.in-Some.net.now ≡ net c.in-Some.member ls = paired (λ m. net m ls) members (length c.loop-member.yielded) _ turn.0 turn.1 in
    ◌∙◌ {b = c.in-Some.net.now} (omega (arith, ints)) is

pub returns-clause-items : goal.returns-clause-items
returns-clause-items c =
    let ls = c.args.lines.now in
    let members = range_with_len 0 64 in
    let end = YieldsList-end (YieldsList-from_zip {s = c.into_iter-member-iterator.result} (YieldsList-from_range 0 64 64 (cc) refl) (YieldsList-from_slice (net_table ls) (cc)))
    c.loop-member.yielded c.loop-member.member-iterator c.loop-member.yielded_by _ c.next.new.self c.in-None.is c.next.ensures.steps in
    let all : map (λ p. p.0) c.loop-member.yielded ≡ members =
    sym (map-map (λ (p : ℕ × ℤ). p.0) (λ (p : ℕ × Bor ℤ). (p.0, p.1.now)) c.loop-member.yielded)
    ∙ ap (map (λ p. p.0)) end.0
    ∙ firsts-zip members (net_table ls) (length-map members (λ m. net m ls)) in
    c.loop-member.invariant.items ∙ ap (λ ms. vec_items c.args.sheet.now ++ net_lines ls ms) all
