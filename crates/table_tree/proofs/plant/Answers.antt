-- `plant`: the first i leaves are set.
use native.Mathlib.Omega.{arith}
use mathlib.Core.Path.{sym, ap, subst, ◌∙◌}
use Prim.Native.Nat.{◌+◌}
use Rattle.table_bytes.specs.Columns.{Cols, cols}
use Rattle.table_bytes.proofs.Access.{sized}
use Rattle.table_tree.specs.Tree.{Leaves}
use Rattle.table_tree.proofs.SpareLaws.{leaves-more}
use Rattle.table_tree.proofs.plant.Goals as goal

pub loop-i-preserved : goal.loop-i-preserved
loop-i-preserved c =
    let set-leaf = c.set_tree in
    let kept = c.loop-i.invariant.2 in (
      set-leaf.auto.b ∙ c.loop-i.invariant.0,
      omega (arith, c.loop-i-test.true),
      record { w = ap (λ (k : Cols). k.w) set-leaf.ensures ∙ kept.w; h = ap (λ (k : Cols). k.h) set-leaf.ensures ∙ kept.h; n = ap (λ (k : Cols). k.n) set-leaf.ensures ∙ kept.n },
      subst (λ (k : Cols). Leaves c.args.cap (c.loop-i.i + 1) k.t) (sym set-leaf.ensures)
          (leaves-more c.args.cap c.loop-i.i (cols c.args.r c.loop-i.b).t (omega (arith, (sized c.args.r c.loop-i.b).t, c.loop-i-test.true, c.requires.fits)) c.loop-i.invariant.3),
    )
