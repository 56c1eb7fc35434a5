-- `reasons::reason_ok` meets its contract: its returns are the branches of the definition. Assumes nothing.
use mathlib.Core.Path.{◌≡◌, sym, ap, ◌∙◌}
use mathlib.Core.Logic.{◌≢◌}
use Prim.Native.Nat.{ℕ, ◌<◌}
use native.Mathlib.Omega.{arith}
use Rattle.journeys.specs.Counting.{none}
use Rattle.entries.specs.Noted.{heard}
use Rattle.reasons.specs.Rows.{net_of, to_of}
use Rattle.reasons.proofs.Reasons.{by-seed, no_record, to-unlisted, from-elsewhere, by-record, offered-farther}
use Rattle.reasons.proofs.reason_ok.Goals as goal

pub returns-then-r-eq-NONE : goal.returns-then-r-eq-NONE
returns-then-r-eq-NONE c =
    let a = c.args in
    by-seed (net_of 65536 a.walks.now a.hops.now a.all a.ends) (heard a.far.now) a.v a.d a.r c.if-r-eq-NONE.true c.seed_at.result c.seed_at.ensures

pub returns-then-all-named : goal.returns-then-all-named
returns-then-all-named c =
    let a = c.args in
    no_record (net_of 65536 a.walks.now a.hops.now a.all a.ends) (heard a.far.now) a.v a.d a.r c.if-r-eq-NONE.false c.if-all-named.true

pub returns-then-listed : goal.returns-then-listed
returns-then-listed c =
    let a = c.args in
    let e : heard a.far.now (to_of a.walks.now a.hops.now a.all a.r) ≡ none = ap (heard a.far.now) (sym c.to_at.ensures) ∙ c.if-listed.true in
    to-unlisted (net_of 65536 a.walks.now a.hops.now a.all a.ends) (heard a.far.now) a.v a.d a.r c.if-r-eq-NONE.false (omega (arith, e))

pub returns-then-from_at-v : goal.returns-then-from_at-v
returns-then-from_at-v c =
    let a = c.args in
    from-elsewhere (net_of 65536 a.walks.now a.hops.now a.all a.ends) (heard a.far.now) a.v a.d a.r c.if-r-eq-NONE.false
    (λ z. c.if-from_at-v.true (c.from_at.ensures ∙ z))

pub returns : goal.returns
returns c =
    let a = c.args in
    let w = a.walks.now in
    let h = a.hops.now in
    let f = heard a.far.now in
    let t = to_of w h a.all a.r in
    let G = net_of 65536 w h a.all a.ends in
    let e = c.to_at.ensures in
    let l = c.if-all-named.false in
    let n : f t ≢ none = λ z. c.if-listed.false (ap f e ∙ z) in
    let listed : f t < none = omega (arith, c.requires.sound.1.small t (c.requires.led a.r l).1 n) in
    by-record G f a.v a.d a.r c.if-r-eq-NONE.false l
    (sym c.from_at.ensures ∙ c.if-from_at-v.false) listed c.offer_at.result.0
    (c.offer_at.ensures.0
    ∙ offered-farther w h a.all a.ends (f c.to_at.result) c.at_distance.result c.at_distance.ensures a.r
    ∙ ap (λ (x : ℕ). G.offer a.r (f x)) e)
