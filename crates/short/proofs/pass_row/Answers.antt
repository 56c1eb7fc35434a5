-- `short::pass_row` meets its contract: the held ones met and the new ones added are all records passed. Assumes nothing.
use Rattle.passing.specs.Row.{passes}
use Rattle.directed.specs.Directed.{row_in}
use Rattle.worktable.specs.Table.{map_of}
use Rattle.blocks.proofs.NextRecord as nx
use Rattle.short.proofs.RowOfStep.{row_done}
use Rattle.short.proofs.pass_row.Goals as goal

pub returns : goal.returns
returns c =
    let a = c.args in
    let R = row_in a.vertices.now a.walks.now a.hops.now a.list.now a.row in
    let n = passes a.row.arriving in
    let m = map_of a.t a.held.now in
    let w = c.touch_row-kept in
    let x = c.add-ended in
    (nx.ends_at a.t w.result x.new.held w.ensures.kept_all.room x.result (row_done R n m c.requires.0.enough w.ensures.kept_all.holds.map) (x.ensures m w.ensures.marked c.requires.0.enough w.ensures.kept_all.holds.map), c.clear.ensures)
