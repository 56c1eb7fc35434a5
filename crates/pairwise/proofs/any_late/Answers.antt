use Prim.Native.Nat.{◌-◌}
use native.Mathlib.Omega.{arith}
use mathlib.Core.Path.{sym, ◌∙◌}
use mathlib.Core.Bool.{true, false}
use Rattle.reread.specs.Read.{stops_here}
use Rattle.feed.specs.Trips.{too_soon}
use Rattle.pairwise.proofs.Answers.{some-start, some_more, some-found}
use Rattle.pairwise.proofs.any_late.Goals as goal

pub loop-p-init : goal.loop-p-init
loop-p-init c = (omega arith, some-start _)

pub returns-then-is_late : goal.returns-then-is_late
returns-then-is_late c =
    let a = c.args in
    some-found (too_soon (stops_here a.c a.stops.now a.trips.now a.text.now a.from) a.i) _ c.loop-p.p c.loop-p-test.true (sym c.is_late.ensures ∙ c.if-is_late.true)

pub loop-p-preserved : goal.loop-p-preserved
loop-p-preserved c =
    let a = c.args in
    (omega (arith, c.loop-p-test.true), some_more (too_soon (stops_here a.c a.stops.now a.trips.now a.text.now a.from) a.i) c.loop-p.p c.loop-p.invariant.1 (sym c.is_late.ensures ∙ c.if-is_late.false))
