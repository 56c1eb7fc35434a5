-- `marking::mark_hop` meets its contract. Assumes nothing.
use Rattle.marking.specs.Setting.{tables, query, mode}
use Rattle.marking.specs.Pends.{state}
use Rattle.marking.proofs.Pushing.{hop-marked}
use Rattle.marking.proofs.mark_hop.Goals as goal

pub returns : goal.returns
returns c =
    let a = c.args in
    let freed = c.release-t in
    let kept = c.put in
    let pushed = c.push in
    hop-marked (tables a.vertices.now a.walks.now a.hops.now a.a) (query a.a) (mode a.hops.now a.a) a.set.now a.j
    (state a.p a.table.now a.marks.now a.stack.now) _ c.requires.judged.1 c.requires.markable
    c.requires.judged.0.valid.tables.hops_few freed.result kept.auto.set kept.ensures freed.ensures.0 freed.ensures.1 pushed.ensures
