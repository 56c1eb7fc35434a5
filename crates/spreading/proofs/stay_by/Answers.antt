-- `spreading::stay_by` meets its contract. Assumes nothing.
use Rattle.marking.specs.Setting.{tables, query, mode}
use Rattle.spreading.proofs.Staying.{stays-mark}
use Rattle.spreading.proofs.stay_by.Goals as goal

pub returns : goal.returns
returns c =
    let a = c.args in
    stays-mark (tables a.vertices.now a.walks.now a.hops.now a.a) (query a.a) (mode a.hops.now a.a) a.i c.requires.judged.1 c.requires.i_bound.0 c.mark_hop.ensures
