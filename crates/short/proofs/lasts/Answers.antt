-- `short::lasts` meets its contract: the loop has taken off the offers above D of the first i records. Assumes nothing.
use mathlib.Core.Path.{◌≡◌, sym, ap, ◌∙◌}
use Prim.Native.Nat.{ℕ, ◌-◌, ◌+◌}
use native.Mathlib.Omega.{arith}
use Rattle.journeys.specs.Counting.{count}
use Rattle.passing.specs.Row.{passes}
use Rattle.directed.specs.Directed.{row_in}
use Rattle.blocks.proofs.Chances.{overs}
use Rattle.short.proofs.RowOfStep.{hope-left, overs-next, overs-within}
use Rattle.short.proofs.lasts.Goals as goal

pub loop-i-init : goal.loop-i-init
unfolding overs count
loop-i-init c = (omega arith, omega (arith, c.due_at-hope.ensures.0))

pub overflow_sub-hope : goal.overflow_sub-hope
overflow_sub-hope c =
    let a = c.args in
    let R = row_in a.vertices.now a.walks.now a.hops.now a.list.now a.row in
    let L = c.loop-i in
    let l = c.loop-i-test.true in
    omega (arith, L.invariant.1, overs-next R a.u L.i c.over_at-hope.result c.over_at-hope.ensures, overs-within R a.u L.i (passes a.row.arriving) l c.requires.arriving_bound.0)

pub loop-i-preserved : goal.loop-i-preserved
loop-i-preserved c =
    let a = c.args in
    let R = row_in a.vertices.now a.walks.now a.hops.now a.list.now a.row in
    let L = c.loop-i in
    let l = c.loop-i-test.true in
    (omega (arith, l), omega (arith, L.invariant.1, overs-next R a.u L.i c.over_at-hope.result c.over_at-hope.ensures, overs-within R a.u L.i (passes a.row.arriving) l c.requires.arriving_bound.0))

pub returns : goal.returns
returns c =
    let a = c.args in
    let R = row_in a.vertices.now a.walks.now a.hops.now a.list.now a.row in
    let L = c.loop-i in
    let e : L.i ≡ passes a.row.arriving = omega (arith, L.invariant.0, c.loop-i-test.false) in
    hope-left R a.u (passes a.row.arriving) L.hope c.requires.arriving_bound.0 c.requires.arriving_bound.1 (ap (λ (k : ℕ). L.hope + overs R a.u k) (sym e) ∙ L.invariant.1)
