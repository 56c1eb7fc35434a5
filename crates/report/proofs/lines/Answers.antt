-- `lines` meets its contract. The invariant: the first i lines are written, each of at most 49 bytes. Assumes nothing.
use native.Mathlib.Omega.{arith}
use mathlib.Core.Path.{refl, ◌∙◌}
use Prim.Native.Nat.{◌-◌}
use Rattle.copying.proofs.Copied.{nothing, both}
use Rattle.report.proofs.LineLaws.{as-text, no_lines, more-lines}
use Rattle.report.proofs.lines.Goals as goal

pub loop-i-init : goal.loop-i-init
loop-i-init c =
    let a = c.args in
    (omega arith, refl, omega arith, as-text (no_lines a.label.now a.table.now a.n) (nothing _ _))

pub loop-i-preserved : goal.loop-i-preserved
loop-i-preserved c =
    let L = c.loop-i in
    let a = c.args in
    let r = c.record_line-to in (
      omega arith,
      r.auto.out ∙ L.invariant.1,
      omega (arith, L.invariant.2, r.ensures.upper_bound),
      as-text (more-lines a.label.now a.table.now a.n L.i) (both (omega (arith, L.invariant.2, c.loop-i-test.true, c.requires.2)) L.invariant.3 r.ensures.wrote),
    )
