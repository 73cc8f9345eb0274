-- What is no example: a plan with one minute too many, a flow of another amount, a pair that has two lines, a debt beyond
-- the trust; and tables of the worked example.
use Rattle.std.specs.Prelude.{◌≡◌, false, [], ◌∷◌, length, pos, slice_index_or}
use Rattle.credit.specs.declared.line.Line.{Line}
use Rattle.credit.specs.Net.{bounded, net_table}
use Rattle.credit.specs.Rooms.{trust}
use Rattle.credit.specs.Plans.{with_debt, booked, Flow, fits}
use Rattle.credit.specs.Pairs.{distinct}
use Rattle.credit.specs.Example.{network, plan}

-- the example's line between 1 and 2
abbrev pub near : Line
near = record { a = 1; b = 2; trust_a = pos 50; trust_b = pos 30; debt = pos 0 }

pub record Contrasts : Type 0 where
  pub everyone : length (net_table network) ≡ 64
  pub table : slice_index_or (net_table (booked network plan)) 3 (pos 0) ≡ pos 30
  pub trusted : trust 1 2 network ≡ pos 50
  pub trusted_back : trust 2 1 network ≡ pos 30
  pub too_much : fits network (pos 31 ∷ pos 30 ∷ []) ≡ false
  pub other_amount : Flow network 1 3 (pos 31) [] plan → ⊥
  pub two_lines : distinct (near ∷ network) ≡ false
  pub in_debt : bounded (with_debt near (pos 51)) ≡ false
