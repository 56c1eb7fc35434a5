-- `blocks::add` meets its contract. Additions take no entry away, so where one has no room the end has none. Assumes nothing.
use mathlib.Core.Path.{refl, sym, ap}
use mathlib.Core.Bool.{cond, ◌&&◌}
use Prim.Native.Nat.{◌+◌, ◌-◌, ◌/◌, ◌%◌}
use native.Mathlib.Omega.{arith}
use borrow.Author.Tests.{eq-eqb, ne_eqb}
use Rattle.journeys.proofs.Tests.{and-true, and_left, cond-false}
use Rattle.passing.specs.Row.{passes}
use Rattle.directed.specs.Directed.{row_in}
use Rattle.worktable.specs.Map.{Entry, put, size}
use Rattle.worktable.specs.Table.{map_of}
use Rattle.meeting.specs.Passing.{met}
use Rattle.meeting.specs.Answer.{ArrivedIs}
use Rattle.meeting.proofs.Leading as le
use Rattle.meeting.proofs.Loops as lo
use Rattle.blocks.specs.Block.{in_block, stays_in, stayers}
use Rattle.blocks.proofs.BlockOfStep.{adds-size}
use Rattle.blocks.proofs.NextRecord as nx
use Rattle.directed.proofs.Either.{allowed-low, few}
use Rattle.blocks.proofs.add.Goals as goal

pub loop-j-init : goal.loop-j-init
loop-j-init c = lo.went-none c.requires.0.order

pub add_one-requires : goal.add_one-requires
add_one-requires c =
    let a = c.args in
    let y = c.requires.0 in
    let L = c.loop-j in
    let R = row_in a.vertices.now a.walks.now a.hops.now a.list.now a.row in
    let near = c.near_at-u in
    let q = near.ensures in
    let l = c.loop-j-test.true in
    let i = L.invariant.leads in record {
      in_order = (record { order = i.holds.order; low = rw q (y.near.low L.j l); few = y.near.vertices; figure = c.brings_at-offer.ensures.1 }, c.requires.1, omega (arith, allowed-low y.sound));
      nonzero = λ on.
          let both = and-true (eq-eqb (near.result / 2048) a.block c.if-u-block.false) on in
          (nx.added-left R (passes a.row.arriving) (map_of a.t a.held.now) L.j l q (stayers a.counters.now a.block) y.news i.holds.map both, nx.added-entry R (passes a.row.arriving) (map_of a.t a.held.now) L.j l q (stayers a.counters.now a.block) y.news i.holds.map c.brings_at-offer.ensures.0 both);
    }

pub returns-in_err-table : goal.returns-in_err-table
unfolding ArrivedIs
returns-in_err-table c =
    let a = c.args in
    let L = c.loop-j in
    let R = row_in a.vertices.now a.walks.now a.hops.now a.list.now a.row in
    let i = L.invariant.leads in
    let m = map_of a.t a.held.now in
    let near = c.near_at-u in
    let u = near.result in
    let e = map_of L.table L.held u in
    let f = lo.step_map R.from R.offer (λ u x e. cond (in_block a.block u && stays_in a.counters.now (u % 2048)) (met R.allowed x (R.departing u) e) e) m L.j i.holds.map near.ensures refl in
    let g = ap (λ (y : Entry). size (put (map_of L.table L.held) u y)) (nx.in-block-and a.block u (λ x. met R.allowed x (R.departing u) e) e (stays_in a.counters.now (u % 2048)) c.if-u-block.false c.brings_at-offer.ensures.0) in
    let z = le.none-fits L.table c.add_one.new.held _ c.add_one.ensures c.in_err-table.was in
    le.none-lacks a.t c.add_one.new.held _ (omega (arith, z, i.room, g, ap size f, adds-size R (passes a.row.arriving) (stayers a.counters.now a.block) m c.requires.0.news (L.j + 1) (passes a.row.arriving) (omega (arith, c.loop-j-test.true)) (omega arith))) c.from_residual.ensures

pub loop-j-preserved : goal.loop-j-preserved
loop-j-preserved c =
    let a = c.args in
    let R = row_in a.vertices.now a.walks.now a.hops.now a.list.now a.row in
    let L = c.loop-j in
    let near = c.near_at-u in
    let u = near.result in
    let e = map_of L.table L.held u in
    let g = ap (put (map_of L.table L.held) u) (nx.in-block-and a.block u (λ x. met R.allowed x (R.departing u) e) e (stays_in a.counters.now (u % 2048)) c.if-u-block.false c.brings_at-offer.ensures.0) in
    lo.went_on R.from R.offer (λ u x e. cond (in_block a.block u && stays_in a.counters.now (u % 2048)) (met R.allowed x (R.departing u) e) e) L.invariant c.loop-j-test.true c.add_one.auto.held
    (le.leads-same (le.fits-leads c.add_one.ensures c.in_ok-table.was) g) near.ensures refl

pub loop-j-preserved-then-u-block : goal.loop-j-preserved-then-u-block
loop-j-preserved-then-u-block c =
    let a = c.args in
    let R = row_in a.vertices.now a.walks.now a.hops.now a.list.now a.row in
    let L = c.loop-j in
    let u = c.near_at-u.result in
    let m = map_of L.table L.held in
    let off = and_left (stays_in a.counters.now (u % 2048)) (ne_eqb (u / 2048) a.block c.if-u-block.true) in
    lo.went_on R.from R.offer (λ u x e. cond (in_block a.block u && stays_in a.counters.now (u % 2048)) (met R.allowed x (R.departing u) e) e) L.invariant c.loop-j-test.true refl
    (le.leads-here L.invariant.leads.holds.order (le.stays_put m u _ (sym (cond-false (met R.allowed (R.offer L.j) (R.departing u) (m u)) (m u) off)))) c.near_at-u.ensures refl

pub returns : goal.returns
returns c = le.fits-is (lo.went-all c.loop-j.invariant c.loop-j-test.false)
