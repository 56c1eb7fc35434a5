-- `meeting::most_comers` meets its contract: the loop has counted the first i records. Assumes nothing.
use mathlib.Core.Path.{refl}
use mathlib.Core.Bool.{not}
use Prim.Native.Nat.{◌+◌}
use native.Mathlib.Omega.{arith}
use Rattle.journeys.specs.Counting.{count}
use Rattle.journeys.proofs.Counting.{count_most}
use Rattle.directed.specs.Directed.{row_in}
use Rattle.meeting.specs.Passing.{futile}
use Rattle.meeting.proofs.Sizes.{comers-more}
use Rattle.meeting.proofs.most_comers.Goals as goal

pub loop-i-init : goal.loop-i-init
unfolding count
loop-i-init c = (omega arith, omega arith, refl)

pub loop-i-preserved : goal.loop-i-preserved
loop-i-preserved c =
    let a = c.args in
    let L = c.loop-i in
    let R = row_in a.vertices.now a.walks.now a.hops.now a.list.now a.row in
    let counted = comers-more R L.i L.invariant.2 c.near_at-u.ensures c.brings_at-offer.ensures.0 c.due_at-due.ensures.0 c.comes-come.ensures in
    (omega (arith, c.loop-i-test.true), omega (arith, counted, count_most (λ i. not (futile R.allowed (R.offer i) (R.departing (R.from i)))) (L.i + 1)), counted)
