-- A share on the direct line and what the router below finds for the rest are together what a router means.
use Rattle.std.proofs.Common.{◌≡◌, ℕ, ◌<◌, Bool, true, false, List, length, get_or, drop, set, ℤ, pos, ◌+ℤ◌, ◌-ℤ◌, ◌≤ℤ◌, ◌<ℤ◌, Some, None, Ok, Err, Option, sym, refl, ap, ◌∙◌, subst, arith, length-set}
use lib.Signed.{lt_z}
use Rattle.std.proofs.lemmas.List.{set-get_or, set-set, drop-set-lt}
use Rattle.std.proofs.lemmas.Int.{ints}
use Rattle.std.specs.List.{position}
use Rattle.credit.specs.declared.line.Line.{Line}
use Rattle.credit.specs.declared.payment.Payment.{Payment}
use Rattle.credit.specs.Refusals.{Verdict, passes}
use Rattle.credit.specs.Sums.{only}
use Rattle.credit.specs.Net.{no_line}
use Rattle.credit.specs.Plans.{moved, roomy, room_from, Flow, fits}
use Rattle.credit.specs.Pairs.{joins}
use Rattle.credit.proofs.Sends.{flow_sent, flow_add, fits_set, roomy_at, roomy_sent, room_sent}
use Rattle.routing.specs.Meaning.{Routed, Tight, Finds, Unless, Routes}
use Rattle.routing.specs.Direct.{share_on, share_at, direct_share, rest_of, Upward, Below, Beside, Shared}
use Rattle.routing.specs.Handing.{Answered, Handed}
use Rattle.routing.specs.declared.direct.Share.{Share}
use Rattle.routing.proofs.Passing.{Passed, passed_from}
use Rattle.routing.proofs.Shares.{first_at, room_from_low, Least, least}

-- past the checks a router's answer is what it finds
pub routes_finds : (ls : List Line) (pay : Payment) (xs : List ℤ) (r : Verdict) (exit : List ℤ) → Passed ls pay xs → Routes ls pay xs r exit → Finds ls pay xs r exit
routes_finds ls pay xs r exit f t = subst (λ v. Unless v ls pay xs r exit) (passed_from ls pay xs f) t

module _ (ls : List Line) (xs : List ℤ) (pay : Payment) (i : ℕ) (f : Passed ls pay xs) (h : i < length ls) (j : joins pay.payer pay.payee (get_or ls i no_line) ≡ true) where
  abbrev pub own : Share
  own = share_on (get_or ls i no_line) i pay (get_or xs i (pos 0))

  -- the plan with the share in it
  abbrev pub given : List ℤ
  given = set xs i own.after

  pub in_plan : i < length xs
  in_plan = omega (arith, f.long)

  roomy_here : roomy (moved (get_or ls i no_line) (get_or xs i (pos 0))) ≡ true
  roomy_here = roomy_at ls xs i h in_plan f.fit

  pub parts : Least pay.amount (room_from (moved (get_or ls i no_line) (get_or xs i (pos 0))) pay.payer)
  parts = least pay.amount _ (omega (arith, ints, f.low)) (room_from_low (moved (get_or ls i no_line) (get_or xs i (pos 0))) pay.payer roomy_here)

  given_fits : fits ls given ≡ true
  given_fits = fits_set ls xs i h in_plan own.after f.fit (roomy_sent (get_or ls i no_line) pay.payer (get_or xs i (pos 0)) own.part roomy_here parts.low parts.room)

  given_flow : Flow ls pay.payer pay.payee own.part xs given
  given_flow = flow_sent ls xs i h in_plan pay.payer pay.payee own.part j f.apart

  given_behind : drop (length ls) given ≡ drop (length ls) xs
  given_behind = drop-set-lt (length ls) xs i own.after h

  -- the rest past the checks
  pub given_passed : own.part <ℤ pay.amount → Passed ls (rest_of pay own) given
  given_passed less = record {
    payer = f.payer;
    payee = f.payee;
    apart = f.apart;
    low = omega (arith, ints, parts.low);
    high = omega (arith, ints, parts.low, f.high);
    few = f.few;
    sound = f.sound;
    long = omega (arith, f.long, length-set xs i own.after);
    fit = given_fits;
  }

  -- the share alone
  pub whole : own.part ≡ pay.amount → Routed ls pay xs given
  whole e = record { flow = subst (λ t. Flow ls pay.payer pay.payee t xs given) e given_flow; fit = given_fits; long = length-set xs i own.after; behind = given_behind }

  -- the share and the rest
  pub both : (left : List ℤ) → Routed ls (rest_of pay own) given left → Routed ls pay xs left
  both left r =
      let e : own.part +ℤ (pay.amount -ℤ own.part) ≡ pay.amount = omega (arith, ints) in
      record {
        flow = subst (λ t. Flow ls pay.payer pay.payee t xs left) e (flow_add ls pay.payer pay.payee own.part (pay.amount -ℤ own.part) xs given left given_flow r.flow);
        fit = r.fit;
        long = r.long ∙ length-set xs i own.after;
        behind = r.behind ∙ given_behind;
      }

  -- a group that is too tight for the rest is too tight for the amount, its room being larger by the share
  pub larger : (g : ℕ) (w : ℤ) → Tight ls (rest_of pay own) given g w → Tight ls pay xs g (w +ℤ own.part)
  larger g w t =
      let e = room_sent ls xs i h in_plan g pay.payer pay.payee own.part j f.apart in
      let a = ap (λ b. only b own.part) t.payer in
      let b = ap (λ b. only b own.part) t.payee in
      record { word = t.word; payer = t.payer; payee = t.payee; has = omega (arith, ints, e, a, b, t.has); less = omega (arith, ints, t.less) }

  -- the share taken back leaves the plan as it was
  taken_back : set given i own.before ≡ xs
  taken_back = set-set xs i own.after own.before ∙ set-get_or xs i (pos 0)

  -- what follows where the router below has answered
  pub handed_below : own.part <ℤ pay.amount → (r : Verdict) (exit : List ℤ) → Handed ls (rest_of pay own) own given r exit → Below ls (rest_of pay own) own.part given xs r exit
  handed_below less r exit t = (t.0, t.1, t.2, by t.0 (routes_finds ls (rest_of pay own) given t.0 t.1 (given_passed less) t.2) t.3)
    where
      by : (v : Verdict) → Finds ls (rest_of pay own) given v t.1 → Answered v t.1 own r exit → Upward v t.1 own.part xs r exit
      by (Ok u) a b = b
      by (Err e) a b = (a.0, a.1, a.2, b.2 ∙ ap Err (b.1 a.0 a.1 a.2), b.3 ∙ ap (λ z. set z i own.before) a.4 ∙ taken_back)

  below_finds : own.part <ℤ pay.amount → (r : Verdict) (exit : List ℤ) → Below ls (rest_of pay own) own.part given xs r exit → Finds ls pay xs r exit
  below_finds less r exit t = by t.0 (routes_finds ls (rest_of pay own) given t.0 t.1 (given_passed less) t.2) t.3
    where
      by : (v : Verdict) → Finds ls (rest_of pay own) given v t.1 → Upward v t.1 own.part xs r exit → Finds ls pay xs r exit
      by (Ok u) a b = subst (λ v. Finds ls pay xs v exit) (sym b.0) (subst (λ z. Routed ls pay xs z) (sym b.1) (both t.1 a))
      by (Err e) a b =
          let eg : a.0 ≡ b.0 = cc (a.2, b.2) in
          let ew : a.1 ≡ b.1 = cc (a.2, b.2) in
          let k : Tight ls (rest_of pay own) given b.0.bits b.1 = subst (λ w. Tight ls (rest_of pay own) given b.0.bits w) ew (subst (λ g. Tight ls (rest_of pay own) given g.bits a.1) eg a.3) in
          subst (λ v. Finds ls pay xs v exit) (sym b.3) (b.0, b.1 +ℤ own.part, refl, larger b.0.bits b.1 k, b.4)

  pub beside_finds : (s : Bool) → lt_z own.part pay.amount ≡ s → (r : Verdict) (exit : List ℤ) → Beside s own ls pay xs r exit → Finds ls pay xs r exit
  beside_finds true e r exit t = below_finds (omega (arith, ints, e)) r exit t
  beside_finds false e r exit t =
      let d : own.part ≡ pay.amount = omega (arith, ints, e, parts.amount) in
      subst (λ v. Finds ls pay xs v exit) (sym t.0) (subst (λ z. Routed ls pay xs z) (sym t.1) (whole d))

-- Direct has the meaning of a router
pub shared_finds : (ls : List Line) (xs : List ℤ) (pay : Payment) (r : Verdict) (exit : List ℤ) → Passed ls pay xs → Shared (direct_share ls pay xs) ls pay xs r exit → Finds ls pay xs r exit
shared_finds ls xs pay r exit f t = by (position (joins pay.payer pay.payee) ls) refl t
  where
    by : (o : Option ℕ) → position (joins pay.payer pay.payee) ls ≡ o → Shared (share_at o ls pay xs) ls pay xs r exit → Finds ls pay xs r exit
    by None e t = routes_finds ls pay xs r exit f t
    by (Some i) e t = let a = first_at pay.payer pay.payee ls i e in beside_finds ls xs pay i f a.0 a.1 _ refl r exit t

-- what is known of a share
pub record Known (ls : List Line) (xs : List ℤ) (pay : Payment) (s : Share) : Type 0 where
  pub place : s.place < length xs
  pub low : pos 0 ≤ℤ s.part
  pub amount : s.part ≤ℤ pay.amount
  pub rest : s.part <ℤ pay.amount → Passed ls (rest_of pay s) (set xs s.place s.after)
  pub handed : s.part <ℤ pay.amount → (r : Verdict) (exit : List ℤ) → Handed ls (rest_of pay s) s (set xs s.place s.after) r exit
      → Below ls (rest_of pay s) s.part (set xs s.place s.after) xs r exit

pub known : (ls : List Line) (xs : List ℤ) (pay : Payment) (s : Share) → Passed ls pay xs → Some s ≡ direct_share ls pay xs → Known ls xs pay s
known ls xs pay s f e = by (position (joins pay.payer pay.payee) ls) refl e
  where
    by : (o : Option ℕ) → position (joins pay.payer pay.payee) ls ≡ o → Some s ≡ share_at o ls pay xs → Known ls xs pay s
    by None d e = let z : ◌≡◌ {A = ℕ} 0 1 = cc in absurd (omega arith)
    by (Some i) d e =
        let a = first_at pay.payer pay.payee ls i d in
        let same : own ls xs pay i f a.0 a.1 ≡ s = cc in
        subst (λ t. Known ls xs pay t) same (record {
          place = in_plan ls xs pay i f a.0 a.1;
          low = (parts ls xs pay i f a.0 a.1).low;
          amount = (parts ls xs pay i f a.0 a.1).amount;
          rest = given_passed ls xs pay i f a.0 a.1;
          handed = handed_below ls xs pay i f a.0 a.1;
        })

-- the share and what the router below was handed, or the share alone
pub shared_rest : (ls : List Line) (xs : List ℤ) (pay : Payment) (s : Share) (r : Verdict) (exit : List ℤ) → Passed ls pay xs → Some s ≡ direct_share ls pay xs → s.part <ℤ pay.amount
    → Handed ls (rest_of pay s) s (set xs s.place s.after) r exit → Shared (direct_share ls pay xs) ls pay xs r exit
shared_rest ls xs pay s r exit f e less t =
    let b : lt_z s.part pay.amount ≡ true = grind (arith, ints) in
    subst (λ o. Shared o ls pay xs r exit) e (subst (λ z. Beside z s ls pay xs r exit) (sym b) ((known ls xs pay s f e).handed less r exit t))

pub shared_whole : (ls : List Line) (xs : List ℤ) (pay : Payment) (s : Share) (exit : List ℤ) → Some s ≡ direct_share ls pay xs → pay.amount ≤ℤ s.part
    → exit ≡ set xs s.place s.after → Shared (direct_share ls pay xs) ls pay xs passes exit
shared_whole ls xs pay s exit e least t =
    let b : lt_z s.part pay.amount ≡ false = grind (arith, ints) in
    subst (λ o. Shared o ls pay xs passes exit) e (subst (λ z. Beside z s ls pay xs passes exit) (sym b) (refl, t))
