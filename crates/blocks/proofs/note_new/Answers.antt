-- `blocks::note_new` meets its contract: the counters are those after the first j records. Assumes nothing.
use mathlib.Core.Path.{refl, ◌∙◌}
use mathlib.Core.Bool.{◌&&◌}
use Prim.Native.Nat.{◌-◌, ◌%◌}
use native.Mathlib.Omega.{arith}
use lib.Dec.{eqb}
use lib.ListN.{get_or}
use Rattle.passing.specs.Row.{passes}
use Rattle.directed.specs.Directed.{row_in}
use Rattle.worktable.specs.Table.{map_of}
use Rattle.meeting.specs.Passing.{missing}
use Rattle.blocks.specs.Block.{chance, noting}
use Rattle.blocks.proofs.NextRecord as nx
use Rattle.blocks.proofs.note_new.Goals as goal

pub loop-j-init : goal.loop-j-init
unfolding noting
loop-j-init c = (omega arith, refl, λ k h. nx.zero-counter c.args.counters.now c.requires.1 k h)

pub note_one-requires : goal.note_one-requires
note_one-requires c =
    let a = c.args in
    let y = c.requires.0 in
    let L = c.loop-j in
    let R = row_in a.vertices.now a.walks.now a.hops.now a.list.now a.row in
    let q = c.near_at-u.ensures in
    let l = c.loop-j-test.true in
    (y.order, rw q (y.near.low L.j l), L.invariant.1 ∙ nx.zero-length c.requires.1, λ h z. nx.new-has R (passes a.row.arriving) (map_of a.t a.held.now) L.j l q (λ k. (y.fresh _ h k).0) z)

pub loop-j-preserved : goal.loop-j-preserved
loop-j-preserved c =
    let a = c.args in
    let L = c.loop-j in
    let R = row_in a.vertices.now a.walks.now a.hops.now a.list.now a.row in
    let m = map_of a.t a.held.now in
    let u = c.near_at-u.result in
    (omega arith, c.note_one.auto.counters ∙ L.invariant.1, λ k h. nx.noting-step R a.block m L.j k c.near_at-u.ensures refl (L.invariant.2 k h) (c.note_one.ensures k h ∙ nx.in-offer-and a.block u (λ x. chance R.allowed x (R.departing u) (get_or L.counters k 0)) (get_or L.counters k 0) (missing (m u) && eqb (u % 2048) k) c.offer_in-offer.ensures.0))
