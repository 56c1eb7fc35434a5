use Prim.Native.Nat.{ℕ, ◌-◌, ◌<◌}
use native.Mathlib.Omega.{arith}
use mathlib.Core.Path.{◌≡◌, refl, sym, ap, subst, ◌∙◌}
use Rattle.journeys.specs.Refusals.{fine}
use Rattle.reread.specs.Read.{stops_here}
use Rattle.feed.specs.Lines.{place}
use Rattle.feed.specs.Stops.{Stop}
use Rattle.feed.specs.Trips.{stop, first_bad_stop}
use borrow.Author.Tests.{not-true}
use Rattle.pairwise.specs.Asked.{good_by}
use Rattle.pairwise.proofs.Answers.{bad-here, bad-nowhere, no-number}
use Rattle.pairwise.proofs.first_bad.Goals as goal

pub returns-then-number-eq0 : goal.returns-then-number-eq0
returns-then-number-eq0 g c =
    let a = c.args in
    let S = stops_here a.c a.stops.now a.trips.now a.text.now a.from in
    (subst (λ (x : ℕ). fine ≡ first_bad_stop S x (good_by x S)) (sym c.if-number-eq0.true ∙ c.number-number.ensures) (no-number S (good_by 0 S)), tt)

pub returns-then-not-is_good : goal.returns-then-not-is_good
returns-then-not-is_good g c =
    let a = c.args in
    let S = stops_here a.c a.stops.now a.trips.now a.text.now a.from in
    let number = c.number-number.result in
    let some : 0 < number = let z = c.if-number-eq0.false in omega (arith, z) in
    let line : c.placed.result ≡ place _ = c.placed.ensures ∙ ap (λ (s : Stop). place s.line) c.stop_at-h.ensures in
    let here = bad-here S number (good_by number S) c.loop-i.i some (omega (arith, c.requires.n_value, c.loop-i-test.true)) c.loop-i.invariant.1 (sym c.is_good.ensures ∙ not-true _ c.if-not-is_good.true-raw) in (
      c.refused.ensures.told ∙ ap (λ (x : ℕ). record { number = g.N.Numbered.number a.reason; place = x }) line
          ∙ subst (λ (x : ℕ). record { number = x; place = place (stop S c.loop-i.i).line } ≡ first_bad_stop S x (good_by x S)) c.number-number.ensures here,
      rw c.refused.ensures.exactly (refl, subst (λ (x : ℕ). 0 < x) c.number-number.ensures some),
    )

pub returns : goal.returns
returns g c =
    let a = c.args in
    let S = stops_here a.c a.stops.now a.trips.now a.text.now a.from in
    let number = c.number-number.result in (
      subst (λ (x : ℕ). fine ≡ first_bad_stop S x (good_by x S)) c.number-number.ensures
          (bad-nowhere S number (good_by number S) (λ j l. c.loop-i.invariant.1 j (omega (arith, l, c.requires.n_value, c.loop-i.invariant.0, c.loop-i-test.false)))),
      tt,
    )
