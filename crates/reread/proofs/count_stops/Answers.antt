use native.Mathlib.Omega.{arith}
use mathlib.Core.Path.{ap}
use lib.ListN.{drop}
use Rattle.feed.specs.Lines.{lines_of}
use Rattle.lines.proofs.Passes.{stop-within}
use Rattle.naming.proofs.Places.{next-is, next-as, some-line, no_line}
use Rattle.reread.specs.Read.{many_lines}
use Rattle.reread.proofs.Reading.{many-past, many-here, many-over}
use Rattle.reread.proofs.count_stops.Goals as goal

pub line_next-next-requires : goal.line_next-next-requires
line_next-next-requires c =
    (stop-within c.args.text.now c.loop-at.at c.line_stop-stop.result 0 c.loop-at.invariant.0 c.line_stop-stop.ensures).1

pub loop-at-preserved-then-at-stop : goal.loop-at-preserved-then-at-stop
loop-at-preserved-then-at-stop c =
    let text = c.args.text.now in
    let t = c.loop-at-test.true in
    let i = c.loop-at.invariant in
    let n = next-as text c.loop-at.at c.line_stop-stop.result c.line_next-next.result i.0 c.line_stop-stop.ensures c.line_next-next.ensures in
    let w = next-is text c.loop-at.at t in
    let m = many-here text c.loop-at.at t (some-line text c.loop-at.at c.line_stop-stop.result 0 i.0 c.line_stop-stop.ensures c.if-at-stop.true) in
    (omega (arith, n, w), omega (arith, n, w, i), omega (arith, i.2, m, ap (λ k. many_lines (lines_of (drop k text))) n))

pub loop-at-smaller : goal.loop-at-smaller
loop-at-smaller c =
    let text = c.args.text.now in
    let t = c.loop-at-test.true in
    let n = next-as text c.loop-at.at c.line_stop-stop.result c.line_next-next.result c.loop-at.invariant.0 c.line_stop-stop.ensures c.line_next-next.ensures in
    omega (arith, n, next-is text c.loop-at.at t, t)

pub loop-at-preserved : goal.loop-at-preserved
loop-at-preserved c =
    let text = c.args.text.now in
    let t = c.loop-at-test.true in
    let i = c.loop-at.invariant in
    let n = next-as text c.loop-at.at c.line_stop-stop.result c.line_next-next.result i.0 c.line_stop-stop.ensures c.line_next-next.ensures in
    let w = next-is text c.loop-at.at t in
    let m = many-past text c.loop-at.at t (no_line text c.loop-at.at c.line_stop-stop.result 0 i.0 c.line_stop-stop.ensures (omega (arith, c.if-at-stop.false))) in
    (omega (arith, n, w), omega (arith, n, w, i), omega (arith, i.2, m, ap (λ k. many_lines (lines_of (drop k text))) n))

pub returns : goal.returns
returns c =
    omega (arith, c.loop-at.invariant.2, many-over c.args.text.now c.loop-at.at (omega (arith, c.loop-at-test.false)))
