-- `meeting::meet_all` meets its contract. The loop has passed the first j records, each of which took one free slot at most, and a futile one none; u is the vertex of the next, `next` that of the one behind it. Assumes nothing.
use mathlib.Core.Path.{◌≡◌, sym, ap, ap₂, ◌∙◌}
use mathlib.Core.Bool.{false}
use Prim.Native.Nat.{ℕ, ◌<◌}
use native.Mathlib.Omega.{arith}
use Rattle.worktable.specs.Map.{absent, Map, size}
use Rattle.worktable.specs.Table.{map_of}
use Rattle.passing.specs.Row.{passes}
use Rattle.directed.specs.Directed.{row_in}
use Rattle.directed.proofs.Either.{allowed-low}
use Rattle.meeting.specs.Passing.{met, futile}
use Rattle.meeting.proofs.Loops as lo
use Rattle.meeting.proofs.meet_all.Goals as goal

pub returns-then-n-lt1 : goal.returns-then-n-lt1
returns-then-n-lt1 c = lo.went-all (lo.went-none c.requires.0.order) (omega (arith, c.if-n-lt1.true))

pub loop-j-init : goal.loop-j-init
loop-j-init c =
    let a = c.args in (
      lo.went-none c.requires.0.order,
      (
        λ l. c.near_at-u.ensures,
        λ l. c.near_at-next.ensures ∙ ap (row_in a.vertices.now a.walks.now a.hops.now a.list.now a.row).from (c.min.ensures ∙ omega (arith, l)),
      ),
    )

pub meet-table-requires : goal.meet-table-requires
meet-table-requires c =
    let a = c.args in
    let y = c.requires.0 in
    let L = c.loop-j in
    let R = row_in a.vertices.now a.walks.now a.hops.now a.list.now a.row in
    let m = map_of a.t a.held.now in
    let l = c.loop-j-test.true in
    let q = L.invariant.1.0 l in
    let i = L.invariant.0.leads in
    let room : map_of L.table L.held (R.from L.j) ≡ absent → futile R.allowed (R.offer L.j) (R.departing (R.from L.j)) ≡ false → size (map_of L.table L.held) < L.table.room = λ z f.
    rw (i.holds.map, i.room) (c.requires.1 L.j l (ap (λ (k : Map). k (R.from L.j)) (sym i.holds.map) ∙ z) f) in record {
      in_order = (record { order = i.holds.order; low = rw q (y.near.low L.j l); few = y.near.vertices; figure = c.brings_at-offer.ensures.1 }, omega (arith, allowed-low y.sound));
      nonzero = (lo.passed-left R (passes a.row.arriving) m L.j l q y.enough i.holds.map, λ z f. room (ap (map_of L.table L.held) (sym q) ∙ z) (ap₂ (λ (x u : ℕ). futile R.allowed x (R.departing u)) (sym c.brings_at-offer.ensures.0) (sym q) ∙ f));
    }

pub loop-j-preserved : goal.loop-j-preserved
loop-j-preserved c =
    let a = c.args in
    let R = row_in a.vertices.now a.walks.now a.hops.now a.list.now a.row in
    let L = c.loop-j in
    let l = c.loop-j-test.true in (
      lo.went_on R.from R.offer (λ u x e. met R.allowed x (R.departing u) e) L.invariant.0 l c.meet-table.auto.held c.meet-table.ensures (L.invariant.1.0 l) c.brings_at-offer.ensures.0,
      (
        λ k. L.invariant.1.1 k,
        λ k. c.near_at-later.ensures ∙ ap R.from (c.min-in-loop-j.ensures ∙ omega (arith, k)),
      ),
    )
