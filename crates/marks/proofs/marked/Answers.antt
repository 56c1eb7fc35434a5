-- `marks::marked` meets its contract. Assumes nothing.
use Rattle.marks.proofs.Bits.{test-is, power-above-zero}
use Rattle.marks.proofs.marked.Goals as goal

pub nonzero_div-result-2 : goal.nonzero_div-result-2
nonzero_div-result-2 c =
    let a = c.args in
    power-above-zero a.marks.now a.k _ c.power.ensures

pub returns : goal.returns
returns c =
    let a = c.args in
    test-is a.marks.now a.k _ c.power.ensures
