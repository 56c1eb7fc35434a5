-- `marks::mark` meets its contract: adding a power sets one bit that was not set. Assumes nothing.
use Rattle.marks.proofs.Bits.{is-marked, not-marked, mark-fits, mark-sets, marked-again, power-above-zero}
use Rattle.journeys.proofs.Tests.{cond-true, cond-false}
use native.Mathlib.Omega.{arith}
use mathlib.Core.Path.{sym}
use borrow.Author.Rules.{rules}
use Rattle.marks.proofs.mark.Goals as goal

pub nonzero_div-marks : goal.nonzero_div-marks
nonzero_div-marks c =
    let a = c.args in
    power-above-zero a.marks.now a.k _ c.power-p.ensures

pub returns-then-marks-at-eq1 : goal.returns-then-marks-at-eq1
returns-then-marks-at-eq1 c =
    let a = c.args in
    let h = is-marked a.marks.now a.k _ c.power-p.ensures c.if-marks-at-eq1.true in
    (sym (cond-true 0 1 h), λ i l. marked-again a.marks.now a.k h i)

pub overflow_add-marks : goal.overflow_add-marks
overflow_add-marks c =
    let a = c.args in
    record { fits = mark-fits a.marks.now a.k _ c.power-p.ensures c.if-marks-at-eq1.false (search rules) }

pub returns : goal.returns
returns c =
    let a = c.args in
    let e = c.power-p.ensures in
    (sym (cond-false 0 1 (not-marked a.marks.now a.k _ e c.if-marks-at-eq1.false)), λ i l. mark-sets a.marks.now a.k _ e c.if-marks-at-eq1.false (omega (arith, c.requires)) i)
