use native.Mathlib.Omega.{arith}
use mathlib.Core.Path.{◌≡◌, sym, subst}
use mathlib.Core.Bool.{true}
use Rattle.lines.proofs.Passes.{stop-within}
use Rattle.naming.proofs.Places.{next-is, next-as, line-is, some-line, no_line}
use Rattle.stoplist.specs.Made.{entry_good}
use Rattle.reread.proofs.Reading.{going-some, going-past, going_on, going-here, going-over}
use Rattle.reread.proofs.stop_at.Goals as goal

pub line_next-next-requires : goal.line_next-next-requires
line_next-next-requires c =
    let a = c.args in
    (stop-within a.text.now c.loop-at.at c.line_stop-stop.result 0 c.loop-at.invariant.within c.line_stop-stop.ensures).1

pub halt_in-requires : goal.halt_in-requires
halt_in-requires c =
    let a = c.args in
    let text = a.text.now in
    let at = c.loop-at.at in
    let g = c.loop-at.invariant in
    let s = c.line_stop-stop.ensures in
    let w = stop-within text at c.line_stop-stop.result 0 g.within s in record {
      at_le_stop = (w.0, w.1);
      ready = (c.requires.ready.0, subst (λ l. entry_good a.c a.stops.now a.trips.now l ≡ true) (sym (line-is text at c.line_stop-stop.result s)) (going-some a.c a.stops.now a.trips.now text g c.loop-at-test.true (some-line text at c.line_stop-stop.result 0 g.within s c.if-at-stop.true)));
    }

pub returns-then-left-eq0 : goal.returns-then-left-eq0
returns-then-left-eq0 c =
    let a = c.args in
    let text = a.text.now in
    let at = c.loop-at.at in
    let g = c.loop-at.invariant in
    let s = c.line_stop-stop.ensures in
    going-here a.c a.stops.now a.trips.now text g c.loop-at-test.true (some-line text at c.line_stop-stop.result 0 g.within s c.if-at-stop.true) c.if-left-eq0.true (line-is text at c.line_stop-stop.result s) c.halt_in.ensures

pub loop-at-preserved-then-at-stop : goal.loop-at-preserved-then-at-stop
loop-at-preserved-then-at-stop c =
    let a = c.args in
    let text = a.text.now in
    let at = c.loop-at.at in
    let g = c.loop-at.invariant in
    let s = c.line_stop-stop.ensures in
    going_on a.c a.stops.now a.trips.now text g c.loop-at-test.true (next-as text at c.line_stop-stop.result c.line_next-next.result g.within s c.line_next-next.ensures) (some-line text at c.line_stop-stop.result 0 g.within s c.if-at-stop.true) c.if-left-eq0.false

pub loop-at-smaller : goal.loop-at-smaller
loop-at-smaller c =
    let text = c.args.text.now in
    let t = c.loop-at-test.true in
    let n = next-as text c.loop-at.at c.line_stop-stop.result c.line_next-next.result c.loop-at.invariant.within c.line_stop-stop.ensures c.line_next-next.ensures in
    omega (arith, n, next-is text c.loop-at.at t, t)

pub loop-at-preserved : goal.loop-at-preserved
loop-at-preserved c =
    let a = c.args in
    let text = a.text.now in
    let at = c.loop-at.at in
    let g = c.loop-at.invariant in
    let s = c.line_stop-stop.ensures in
    going-past a.c a.stops.now a.trips.now text g c.loop-at-test.true (next-as text at c.line_stop-stop.result c.line_next-next.result g.within s c.line_next-next.ensures) (no_line text at c.line_stop-stop.result 0 g.within s (omega (arith, c.if-at-stop.false)))

pub unreachable-requires : goal.unreachable-requires
unreachable-requires c =
    let a = c.args in
    absurd (going-over a.c a.stops.now a.trips.now a.text.now c.loop-at.invariant (omega (arith, c.loop-at-test.false)))
