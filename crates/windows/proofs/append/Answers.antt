-- `append`: record by record.
use mathlib.Core.Path.{◌∙◌}
use Prim.Native.Nat.{◌-◌}
use native.Mathlib.Omega.{arith}
use Rattle.table_bytes.proofs.Access.{col-length}
use Rattle.windows.proofs.GoneLaws.{append-one}
use Rattle.windows.proofs.append.Goals as goal

pub loop-i-preserved : goal.loop-i-preserved
loop-i-preserved c =
    let a = c.args in (
      c.put.auto.b ∙ c.loop-i.invariant.0,
      omega (arith, c.loop-i-test.true),
      append-one a.k c.loop-i.i _ _ _ _ _ c.loop-i.invariant.2 (rw (col-length 20 a.room c.loop-i.target 0) (omega (arith, c.loop-i-test.true, c.requires.3))) (rw (col-length 20 a.n a.b.now 0) (omega (arith, c.loop-i-test.true, c.requires.2))) c.item_at-x.ensures c.put.ensures,
    )
