-- `blocks::end_block` meets its contract: noted, swept and added is the block of the step. Assumes nothing.
use mathlib.Core.Path.{ap, ◌∙◌}
use Rattle.passing.specs.Row.{passes}
use Rattle.directed.specs.Directed.{row_in}
use Rattle.worktable.specs.Table.{map_of}
use Rattle.meeting.specs.Passing.{goes}
use Rattle.blocks.specs.Block.{adds}
use Rattle.blocks.proofs.BlockOfStep.{block-done, block-news}
use Rattle.blocks.proofs.NextRecord as nx
use Rattle.blocks.proofs.end_block.Goals as goal

pub add-ended-requires : goal.add-ended-requires
add-ended-requires c =
    let a = c.args in
    let R = row_in a.vertices.now a.walks.now a.hops.now a.list.now a.row in
    let n = passes a.row.arriving in
    let w = c.sweep-swept.ensures in
    let counters = c.note_new.new.counters in
    let news = block-news R n a.block (map_of a.t a.held.now) counters c.note_new.ensures c.requires.0.fresh in
    (record { order = w.holds.order; sound = c.requires.0.sound; near = c.requires.0.near; news = nx.news-at R n a.block counters w.holds.map news }, c.note_new.auto.counters ∙ nx.zero-length c.requires.1)

pub returns : goal.returns
returns c =
    let a = c.args in
    let R = row_in a.vertices.now a.walks.now a.hops.now a.list.now a.row in
    let n = passes a.row.arriving in
    let m = map_of a.t a.held.now in
    let w = c.sweep-swept.ensures in
    let counters = c.note_new.new.counters in
    let e = ap (goes R.from (adds R counters a.block) n) w.holds.map ∙ block-done R n a.block m counters c.note_new.ensures c.requires.0.fresh in
    (nx.ends_at a.t c.sweep-swept.result c.add-ended.new.held w.room c.add-ended.result e c.add-ended.ensures, c.clear.ensures)
