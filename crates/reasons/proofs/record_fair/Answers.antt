-- `reasons::record_fair` meets its contract: a record that leads to no listed vertex is fair. Assumes nothing.
use mathlib.Core.Path.{◌≡◌, sym, ap, ap₂, ◌∙◌}
use mathlib.Core.Logic.{◌≢◌}
use Prim.Native.Nat.{ℕ, ◌<◌}
use native.Mathlib.Omega.{arith}
use Rattle.journeys.specs.Counting.{none}
use Rattle.journeys.specs.VendorLists.{no_better}
use Rattle.entries.specs.Noted.{heard}
use Rattle.reasons.specs.Rows.{net_of, to_of}
use Rattle.reasons.proofs.Reasons.{fair-unlisted, fair-listed, offered-farther}
use Rattle.reasons.proofs.record_fair.Goals as goal

pub returns-then-listed : goal.returns-then-listed
returns-then-listed c =
    let a = c.args in
    let e : heard a.far.now (to_of a.walks.now a.hops.now a.all a.r) ≡ none = ap (heard a.far.now) (sym c.to_at.ensures) ∙ c.if-listed.true in
    fair-unlisted (net_of 65536 a.walks.now a.hops.now a.all a.ends) a.most (heard a.far.now) a.r (omega (arith, e))

pub returns : goal.returns
returns c =
    let a = c.args in
    let w = a.walks.now in
    let h = a.hops.now in
    let f = heard a.far.now in
    let t = to_of w h a.all a.r in
    let G = net_of 65536 w h a.all a.ends in
    let e = c.to_at.ensures in
    let n : f t ≢ none = λ z. c.if-listed.false (ap f e ∙ z) in
    let listed : f t < none = omega (arith, c.requires.sound.1.small t (c.requires.led a.r c.requires.sound.2).1 n) in
    let offered =
    c.offer_at-offered.ensures.0
    ∙ offered-farther w h a.all a.ends (f c.to_at.result) c.at_distance.result c.at_distance.ensures a.r
    ∙ ap (λ (x : ℕ). G.offer a.r (f x)) e in
    c.no_better.ensures ∙ ap₂ (λ (x y : ℕ). no_better a.most x y) (ap f c.from_at.ensures) offered ∙ fair-listed G a.most f a.r listed
