-- `bitset::put` meets its contract: adding a power sets one bit that was not set. Assumes nothing.
use Rattle.marks.proofs.Bits.{is-marked, mark-fits, mark-sets, marked-again, power-above-zero}
use Rattle.bitset.proofs.Joins.{bits-joined}
use native.Mathlib.Omega.{arith}
use Rattle.bitset.proofs.put.Goals as goal

pub nonzero_div-set : goal.nonzero_div-set
nonzero_div-set c =
    let a = c.args in
    power-above-zero a.set.now a.k _ c.power-p.ensures

pub returns-then-set-at-eq1 : goal.returns-then-set-at-eq1
returns-then-set-at-eq1 c =
    let a = c.args in
    bits-joined a.set.now _ a.k (marked-again a.set.now a.k (is-marked a.set.now a.k _ c.power-p.ensures c.if-set-at-eq1.true))

pub overflow_add-set : goal.overflow_add-set
overflow_add-set c =
    let a = c.args in
    record { fits = mark-fits a.set.now a.k _ c.power-p.ensures c.if-set-at-eq1.false (omega arith) }

pub returns : goal.returns
returns c =
    let a = c.args in
    bits-joined a.set.now _ a.k (mark-sets a.set.now a.k _ c.power-p.ensures c.if-set-at-eq1.false c.requires)
