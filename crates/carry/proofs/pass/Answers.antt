-- `pass`: hops stand in front of what was not yet written over.
use mathlib.Core.Path.{sym, ◌∙◌}
use Prim.Native.Nat.{◌-◌, ◌<◌}
use native.Mathlib.Omega.{arith}
use lib.ListN.{length}
use Rattle.table_bytes.proofs.Access.{col-length}
use Rattle.sorting.specs.Sorted.{recs}
use Rattle.carry.proofs.Folds.{going_start, going-none, going-one}
use Rattle.carry.proofs.pass.Goals as goal
use Rattle.carry.proofs.pass.Goals.{then-joins, else-joins}

pub loop-i-init : goal.loop-i-init
loop-i-init c = (c.requires.0, omega arith, going_start _ _)

pub loop-i-preserved : goal.loop-i-preserved
loop-i-preserved c =
    let a = c.args in
    let g = c.loop-i.invariant.2 in
    let h : c.loop-i.i < length (recs a.n a.b.now) = omega (arith, c.loop-i-test.true, c.requires.1, col-length 20 a.n a.b.now 0) in (
      c.if-joins.auto.b ∙ c.loop-i.invariant.0,
      omega (arith, c.loop-i-test.true),
      elim c.if-joins.branch [
        | then-joins w ↦ rw (w.b-is, w.k-is) (going-one g h c.item_at-x.ensures (sym c.joins.ensures ∙ w.if-joins.true) c.follow-c.ensures w.put_hop.ensures)
        | else-joins w ↦ rw (w.b-is, w.k-is) (going-none g h c.item_at-x.ensures (sym c.joins.ensures ∙ w.if-joins.false) c.follow-c.ensures)
      ],
    )
