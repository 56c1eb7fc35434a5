-- `short::touch_row` meets its contract: who is held has been met by the first j records, and those of the new ones are marked. Assumes nothing.
use mathlib.Core.Path.{refl, ap, ◌∙◌}
use mathlib.Core.List.{List}
use Prim.Native.Nat.{ℕ, ◌-◌}
use native.Mathlib.Omega.{arith}
use lib.ListN.{get_or}
use Rattle.journeys.specs.Counting.{one}
use Rattle.passing.specs.Row.{passes}
use Rattle.directed.specs.Directed.{row_in}
use Rattle.directed.proofs.Either.{allowed-low}
use Rattle.worktable.specs.Map.{touched, swept}
use Rattle.worktable.specs.Table.{map_of}
use Rattle.meeting.proofs.Loops as lo
use Rattle.short.proofs.RowOfStep.{still-new, still-some, mark-next}
use Rattle.short.proofs.touch_row.Goals as goal

pub loop-j-init : goal.loop-j-init
loop-j-init c = (lo.went-none c.requires.0.order, refl, λ k h. absurd (omega arith))

pub touch_one-table-requires : goal.touch_one-table-requires
touch_one-table-requires c =
    let a = c.args in
    let y = c.requires.0 in
    let L = c.loop-j in
    let l = c.loop-j-test.true in
    let R = row_in a.vertices.now a.walks.now a.hops.now a.list.now a.row in
    let i = L.invariant.0.leads in
    (i.holds.order, c.brings_at-offer.ensures.1, still-some R (passes a.row.arriving) (map_of a.t a.held.now) y.enough L.j l i.holds.map c.near_at-u.ensures, omega (arith, allowed-low y.sound), L.invariant.1 ∙ c.requires.1, omega (arith, l, c.requires.2))

pub loop-j-preserved : goal.loop-j-preserved
loop-j-preserved c =
    let a = c.args in
    let L = c.loop-j in
    let l = c.loop-j-test.true in
    let q = c.near_at-u.ensures in
    let R = row_in a.vertices.now a.walks.now a.hops.now a.list.now a.row in
    let m = map_of a.t a.held.now in
    let x = c.touch_one-table in
    let new = still-new R (passes a.row.arriving) m c.requires.0.enough L.j l L.invariant.0.leads.holds.map q in (
      lo.went_on R.from R.offer (λ u z e. swept R.allowed (touched z e)) L.invariant.0 l x.auto.held x.ensures.leads q c.brings_at-offer.ensures.0,
      x.auto.marks ∙ L.invariant.1,
      λ k h. ap (λ (z : List ℕ). get_or z k 0) x.ensures.marks_after ∙ mark-next R m L.j L.marks _ (omega (arith, L.invariant.1, c.requires.1, c.requires.2, l)) (ap one new) L.invariant.2 k h,
    )
