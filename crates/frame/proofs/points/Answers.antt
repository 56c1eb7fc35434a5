-- `frame::points` meets its contract: the points before v are finite. Assumes nothing.
use mathlib.Core.Path.{sym, ◌∙◌}
use native.Mathlib.Omega.{arith}
use borrow.Author.Tests.{not-true}
use Rattle.lists.proofs.Entries.{first-refused, none-refused}
use Rattle.frame.specs.Frames.{point_ok}
use Rattle.frame.proofs.points.Goals as goal

pub returns-then-not-point_ok : goal.returns-then-not-point_ok
returns-then-not-point_ok c =
    let L = c.loop-v in
    let t = c.args.coordinates.now in
    c.refused.ensures.told
    ∙ first-refused 23 (omega arith) (point_ok t) c.args.n L.v (record { within = L.invariant.0; before = L.invariant.1; fails = λ _. sym c.point_ok.ensures ∙ not-true c.point_ok.result c.if-not-point_ok.true-raw }) c.loop-v-test.true

pub returns : goal.returns
returns c =
    let L = c.loop-v in
    let t = c.args.coordinates.now in
    none-refused 23 (omega arith) (point_ok t) c.args.n L.v (record { within = L.invariant.0; before = L.invariant.1; fails = λ h. absurd (omega (arith, c.loop-v-test.false)) }) c.loop-v-test.false
