use native.Mathlib.Omega.{arith}
use native.Mathlib.Numerals.{add-one}
use mathlib.Core.Path.{sym, ap, ◌∙◌}
use Rattle.journeys.proofs.Tests.{cond-true, cond-false}
use Rattle.lines.proofs.Passes.{stop-within, next-within, next-later}
use Rattle.naming.specs.Named.{found_from}
use Rattle.naming.proofs.Places.{names-read, next-as, found-step, found-over}
use Rattle.naming.proofs.seek.Goals as goal

pub line_next-next-requires : goal.line_next-next-requires
line_next-next-requires c = (stop-within c.args.text.now c.loop-at.at c.line_stop-stop.result 0 c.loop-at.invariant.0 c.line_stop-stop.ensures).1

pub begins_between-requires : goal.begins_between-requires
begins_between-requires c = stop-within c.args.text.now c.loop-at.at c.line_stop-stop.result 0 c.loop-at.invariant.0 c.line_stop-stop.ensures

pub returns-then-at-stop : goal.returns-then-at-stop
returns-then-at-stop c =
    let a = c.args in
    let at = c.loop-at.at in
    add-one at
    ∙ sym (c.loop-at.invariant.1 ∙ found-step a.text.now at a.name.now c.loop-at-test.true
    ∙ cond-true _ _ (sym (names-read a.text.now at c.line_stop-stop.result 0 c.loop-at.invariant.0 c.line_stop-stop.ensures a.name.now c.begins_between.ensures) ∙ c.if-at-stop.true))

pub loop-at-smaller : goal.loop-at-smaller
loop-at-smaller c =
    let a = c.args in
    let t = c.loop-at-test.true in
    let later = next-later a.text.now c.loop-at.at c.line_stop-stop.result c.line_next-next.result c.loop-at.invariant.0 c.line_stop-stop.ensures t c.line_next-next.ensures in
    omega (arith, later, t)

pub loop-at-preserved : goal.loop-at-preserved
loop-at-preserved c =
    let a = c.args in
    let at = c.loop-at.at in
    let s = c.line_stop-stop.ensures in (
      (next-within a.text.now at c.line_stop-stop.result c.line_next-next.result c.loop-at.invariant.0 s c.line_next-next.ensures).1,
      c.loop-at.invariant.1 ∙ found-step a.text.now at a.name.now c.loop-at-test.true
          ∙ cond-false _ _ (sym (names-read a.text.now at c.line_stop-stop.result 0 c.loop-at.invariant.0 s a.name.now c.begins_between.ensures) ∙ c.if-at-stop.false)
          ∙ ap (λ p. found_from a.text.now p a.name.now) (sym (next-as a.text.now at c.line_stop-stop.result c.line_next-next.result c.loop-at.invariant.0 s c.line_next-next.ensures)),
    )

pub returns : goal.returns
returns c = let a = c.args in sym (c.loop-at.invariant.1 ∙ found-over a.text.now c.loop-at.at a.name.now c.loop-at-test.false)
