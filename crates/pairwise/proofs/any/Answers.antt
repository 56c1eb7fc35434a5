use Prim.Native.Nat.{◌-◌}
use native.Mathlib.Omega.{arith}
use mathlib.Core.Path.{sym, ap, ◌∙◌}
use mathlib.Core.Bool.{false}
use Rattle.feed.specs.Stops.{Stop}
use Rattle.feed.specs.Trips.{stop}
use Rattle.reread.specs.Read.{stops_here}
use Rattle.pairwise.specs.Asked.{asked}
use Rattle.pairwise.proofs.Answers.{some-start, some_more, some-found}
use Rattle.pairwise.proofs.any.Goals as goal

pub loop-k-init : goal.loop-k-init
loop-k-init c = (omega arith, some-start _)

pub returns-then-ask : goal.returns-then-ask
returns-then-ask c =
    let a = c.args in
    some-found (λ j. asked a.question (stop (stops_here a.c a.stops.now a.trips.now a.text.now a.from) j)) _ c.loop-k.k c.loop-k-test.true (ap (λ (s : Stop). asked a.question s) (sym c.stop_at-h.ensures) ∙ sym c.ask.ensures ∙ c.if-ask.true)

pub loop-k-preserved : goal.loop-k-preserved
loop-k-preserved c =
    let a = c.args in
    (omega (arith, c.loop-k-test.true), some_more (λ j. asked a.question (stop (stops_here a.c a.stops.now a.trips.now a.text.now a.from) j)) c.loop-k.k c.loop-k.invariant.1 (ap (λ (s : Stop). asked a.question s) (sym c.stop_at-h.ensures) ∙ sym c.ask.ensures ∙ c.if-ask.false))
