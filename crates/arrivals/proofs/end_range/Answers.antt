-- `arrivals::end_range` meets its contract: the step is over for the blocks below the one to come. Assumes nothing.
use mathlib.Core.Path.{◌≡◌, refl, sym, ap, ◌∙◌}
use Prim.Native.Nat.{ℕ, suc, ◌+◌, ◌*◌, ◌≤◌, ◌<◌}
use native.Mathlib.Omega.{arith}
use Rattle.passing.specs.Row.{passes}
use Rattle.directed.specs.Directed.{row_in}
use Rattle.worktable.specs.Map.{Map, size}
use Rattle.worktable.specs.Table.{map_of}
use Rattle.meeting.specs.Passing.{leaving}
use Rattle.meeting.proofs.Leading.{leads-here, leads-same, leads-on, fits-leads, none-fits}
use Rattle.blocks.specs.Block.{over}
use Rattle.surveys.proofs.BlockByBlock.{gap-none}
use Rattle.arrivals.specs.Range.{over_to, RangeIs}
use Rattle.arrivals.proofs.BlocksAreStep as bs
use Rattle.arrivals.proofs.end_range.Goals as goal

pub loop-block-init : goal.loop-block-init
loop-block-init c =
    let a = c.args in
    let R = row_in a.vertices.now a.walks.now a.hops.now a.list.now a.row in
    let n = passes a.row.arriving in
    let m = map_of a.t a.held.now in
    let x = c.next_block-block.ensures in
    let r = c.next_block-block.result in
    (x.0, x.1, leads-here c.requires.0.order (sym (bs.range_none R n m a.first) ∙ bs.range-gap R n m a.first a.first r x.0 (gap-none a.vertices.now a.walks.now a.hops.now a.list.now a.row a.first r x.2)), c.requires.1, refl, refl)

pub end_block-requires : goal.end_block-requires
end_block-requires c =
    let a = c.args in
    let y = c.requires.0 in
    let L = c.loop-block in
    let l = c.loop-block-test.true in
    let R = row_in a.vertices.now a.walks.now a.hops.now a.list.now a.row in
    let n = passes a.row.arriving in
    let m = map_of a.t a.held.now in
    let w = L.invariant.2 in (
      record {
        order = w.holds.order;
        sound = y.sound;
        near = y.near;
        fresh = λ u q z. y.fresh u (omega (arith, L.invariant.0)) (omega (arith, l)) (sym (bs.above R n m a.first L.block u (omega arith)) ∙ ap (λ (M : Map). M u) (sym w.holds.map) ∙ z);
      },
      L.invariant.3,
    )

pub returns-in_err-table : goal.returns-in_err-table
returns-in_err-table c =
    let a = c.args in
    let L = c.loop-block in
    let R = row_in a.vertices.now a.walks.now a.hops.now a.list.now a.row in
    let n = passes a.row.arriving in
    let m = map_of a.t a.held.now in
    let w = L.invariant.2 in
    let x = c.end_block in
    let e = ap (over R n L.block) w.holds.map ∙ bs.range-next R n m a.first L.block L.invariant.0 in
    let z = none-fits L.table x.new.held (over R n L.block (map_of L.table L.held)) x.ensures.0 c.in_err-table.was in
    (bs.range-lacks R n a.first a.end a.t x.new.held m (suc L.block, omega (arith, L.invariant.0), omega (arith, c.loop-block-test.true), omega (arith, z, w.room, ap size e)) c.from_residual.ensures, x.ensures.1)

pub loop-block-preserved : goal.loop-block-preserved
loop-block-preserved c =
    let a = c.args in
    let L = c.loop-block in
    let R = row_in a.vertices.now a.walks.now a.hops.now a.list.now a.row in
    let n = passes a.row.arriving in
    let m = map_of a.t a.held.now in
    let b = L.block in
    let x = c.next_block-block-in-loop-block.ensures in
    let r = c.next_block-block-in-loop-block.result in
    let v = c.end_block in
    let none : (u : ℕ) → 2048 * suc b ≤ u → u < 2048 * r → leaving R u n ≡ 0 =
    λ u p q. gap-none a.vertices.now a.walks.now a.hops.now a.list.now a.row (b + 1) r x.2 u (omega arith) q in
    let w = L.invariant.2 in
    let k = fits-leads {m = over R n b (map_of L.table L.held)} v.ensures.0 c.in_ok-table.was in
    let e = ap (over R n b) w.holds.map ∙ bs.range-next R n m a.first b L.invariant.0 ∙ bs.range-gap R n m a.first (suc b) r (omega (arith, x.0)) none in
    (omega (arith, L.invariant.0, x.0), x.1, leads-on w (leads-same k e), v.ensures.1, v.auto.held ∙ L.invariant.4, v.auto.counters ∙ L.invariant.5)

pub returns : goal.returns
unfolding RangeIs
returns c =
    let a = c.args in
    let L = c.loop-block in
    let R = row_in a.vertices.now a.walks.now a.hops.now a.list.now a.row in
    let n = passes a.row.arriving in
    let m = map_of a.t a.held.now in
    let e : L.block ≡ a.end = omega (arith, L.invariant.1, c.loop-block-test.false) in
    (leads-same L.invariant.2 (ap (λ (k : ℕ). over_to R n a.first k m) e), L.invariant.3)
