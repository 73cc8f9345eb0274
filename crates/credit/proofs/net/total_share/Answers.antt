use Rattle.std.proofs.Common.{◌≡◌, pos, ◌+ℤ◌, ◌∙◌, rules, tests, arith}
use Rattle.std.proofs.lemmas.Int.{ints}
use Rattle.std.proofs.lemmas.Iterator.{YieldsList-from_slice, YieldsList-from_map}
use Rattle.std.proofs.lemmas.Iterator.Adapters.{total_from_yields_List}
use Rattle.credit.specs.Net.{bounded, share, net}
use Rattle.credit.proofs.Bounds.{share_range}
use Rattle.credit.proofs.Chains.{fits_from_fronts, sum_fits, fold_sum, net_range}
use Rattle.credit.proofs.net.total_share.Goals as goal

pub sum-requires-clause-fits : goal.sum-requires-clause-fits
sum-requires-clause-fits c =
    fits_from_fronts _ (YieldsList-from_map _ (share c.args.member) (YieldsList-from_slice c.args.lines.now cc) c.map.ensures.closure (λ x r q k. search (rules, tests)))
    (sum_fits bounded (share c.args.member) 1000000 1000000 (share_range c.args.member) (omega arith) (omega arith) c.args.lines.now c.requires.bounds c.requires.few)

total : (c : goal.After-sum) → c.sum.result ≡ net c.args.member c.args.lines.now
total c =
    total_from_yields_List ◌+ℤ◌ (pos 0) c.sum.result c.sum.ensures.ran (YieldsList-from_map _ (share c.args.member) (YieldsList-from_slice c.args.lines.now cc) c.map.ensures.closure (λ x r q k. search (rules, tests)))
    ∙ fold_sum (share c.args.member) c.args.lines.now

pub returns : goal.returns
returns c =
    let r = net_range c.args.member c.args.lines.now c.requires.bounds in
    record {
      value = omega (arith, ints, total c);
      bound = (omega (arith, ints, total c), omega (arith, ints, total c));
    }
