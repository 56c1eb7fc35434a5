-- `short::add` meets its contract. Additions take no entry away, so where one has no room the end has none. Assumes nothing.
use mathlib.Core.Path.{◌≡◌, refl, ap, ◌∙◌}
use mathlib.Core.Logic.{◌≢◌}
use mathlib.Core.Bool.{Bool, true, cond, not, ◌&&◌}
use Prim.Native.Nat.{ℕ, ◌+◌, ◌-◌}
use native.Mathlib.Omega.{arith}
use lib.Dec.{eqb}
use lib.ListN.{get_or}
use Rattle.journeys.proofs.Tests.{and-true}
use Rattle.passing.specs.Row.{passes}
use Rattle.directed.specs.Directed.{row_in}
use Rattle.worktable.specs.Map.{put, size}
use Rattle.worktable.specs.Table.{map_of}
use Rattle.meeting.specs.Passing.{missing, met, meets}
use Rattle.meeting.specs.Answer.{ArrivedIs}
use Rattle.meeting.proofs.Leading as le
use Rattle.meeting.proofs.Loops as lo
use Rattle.blocks.proofs.BlockOfStep.{adds-size}
use Rattle.blocks.proofs.NextRecord as nx
use Rattle.short.specs.ShortRow.{lasting, comes_to}
use Rattle.short.proofs.RowOfStep.{mark-said, mark-new, new-few, row-news}
use Rattle.short.proofs.add.Goals as goal

pub loop-j-init : goal.loop-j-init
loop-j-init c = (refl, λ m k e p. lo.went-none c.requires.0.order)

pub add_one-requires : goal.add_one-requires
add_one-requires c =
    let a = c.args in
    let y = c.requires.0 in
    let L = c.loop-j in
    let l = c.loop-j-test.true in
    let R = row_in a.vertices.now a.walks.now a.hops.now a.list.now a.row in
    let n = passes a.row.arriving in
    let m = y.before in
    let i = (L.invariant.1 m y.marked y.enough y.kept).leads in
    let news = row-news R n m y.enough y.kept in
    let new : get_or a.marks.now L.j 0 ≢ 0 → missing (m (R.from L.j)) ≡ true = λ h. mark-new (missing (m (R.from L.j))) (λ z. h (y.marked L.j l ∙ z)) in record {
      in_order = (i.holds.order, y.sound, y.near, l, c.requires.1, omega (arith, l, c.requires.2));
      arriving_bound = (λ h. new-few R n m y.enough (R.from L.j) (new h));
      nonzero = λ h t. (
        nx.added-left R n (map_of a.t a.held.now) L.j l refl (comes_to R n m) news i.holds.map (and-true (new h) t),
        nx.added-entry R n (map_of a.t a.held.now) L.j l refl (comes_to R n m) news i.holds.map refl (and-true (new h) t),
      );
    }

pub returns-in_err-table : goal.returns-in_err-table
unfolding ArrivedIs
returns-in_err-table c =
    let a = c.args in
    let L = c.loop-j in
    let l = c.loop-j-test.true in
    let R = row_in a.vertices.now a.walks.now a.hops.now a.list.now a.row in
    let n = passes a.row.arriving in
    let M = map_of L.table L.held in
    let F = R.from L.j in
    let z = le.none-fits L.table c.add_one.new.held _ c.add_one.ensures c.in_err-table.was in
    λ m k e p.
    let i = (L.invariant.1 m k e p).leads in
    let said = ap (λ (b : Bool). b && lasting R n F) (ap (λ (x : ℕ). not (eqb x 0)) (k L.j l) ∙ mark-said (missing (m F))) in
    let g = ap (λ (b : Bool). size (put M F (cond b (meets R L.j (M F)) (M F)))) said in
    let f = lo.step_map R.from R.offer (λ u x e. cond (comes_to R n m u) (met R.allowed x (R.departing u) e) e) (map_of a.t a.held.now) L.j i.holds.map refl refl in
    le.none-lacks a.t c.add_one.new.held _ (omega (arith, z, i.room, g, ap size f, adds-size R n (comes_to R n m) (map_of a.t a.held.now) (row-news R n m e p) (L.j + 1) n (omega (arith, l)) (omega arith))) c.from_residual.ensures

pub loop-j-preserved : goal.loop-j-preserved
loop-j-preserved c =
    let a = c.args in
    let L = c.loop-j in
    let l = c.loop-j-test.true in
    let x = c.add_one in
    let R = row_in a.vertices.now a.walks.now a.hops.now a.list.now a.row in
    let n = passes a.row.arriving in
    let M = map_of L.table L.held in
    let F = R.from L.j in (
      x.auto.held ∙ L.invariant.0,
      λ m k e p.
          let said = ap (λ (b : Bool). b && lasting R n F) (ap (λ (x : ℕ). not (eqb x 0)) (k L.j l) ∙ mark-said (missing (m F))) in
          lo.went_on R.from R.offer (λ u x e. cond (comes_to R n m u) (met R.allowed x (R.departing u) e) e) (L.invariant.1 m k e p) l x.auto.held
          (le.leads-same (le.fits-leads x.ensures c.in_ok-table.was) (ap (λ (b : Bool). put M F (cond b (meets R L.j (M F)) (M F))) said)) refl refl,
    )

pub returns : goal.returns
returns c = λ m k e p. le.fits-is (lo.went-all (c.loop-j.invariant.1 m k e p) c.loop-j-test.false)
