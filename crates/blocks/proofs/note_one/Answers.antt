-- `blocks::note_one` meets its contract: a new vertex of the block is noted. Assumes nothing.
use mathlib.Core.Path.{sym, ◌∙◌}
use Prim.Native.Nat.{◌/◌, ◌%◌}
use lib.Dec.{eqb}
use lib.ListN.{get_or}
use borrow.Author.Tests.{eq-eqb}
use Rattle.journeys.proofs.Tests.{and_left, and_right, cond-false}
use Rattle.worktable.specs.Table.{map_of}
use Rattle.worktable.proofs.TableLaws.{found-nowhere, found-somewhere}
use Rattle.meeting.proofs.Entries.{absent-missing}
use Rattle.meeting.proofs.Leading.{here-held}
use Rattle.blocks.specs.Block.{in_block}
use Rattle.blocks.proofs.note_one.Goals as goal

pub note-requires : goal.note-requires
note-requires c =
    let a = c.args in
    let z = found-nowhere a.t a.held.now a.u _ c.find.ensures c.is_none.ensures c.if-is_none.true in
    (c.requires.1, c.requires.3 c.if-u-block.false z, c.requires.2)

pub returns-then-is_none : goal.returns-then-is_none
returns-then-is_none c =
    let a = c.args in
    let m = map_of a.t a.held.now in
    let z = found-nowhere a.t a.held.now a.u _ c.find.ensures c.is_none.ensures c.if-is_none.true in
    let t = eq-eqb (a.u / 2048) a.block c.if-u-block.false in
    let new = absent-missing (m a.u) z in
    λ k h. c.note.ensures k h ∙ sym (rw (t, new))

pub returns-else-is_none : goal.returns-else-is_none
returns-else-is_none c =
    let a = c.args in
    let p = (found-somewhere a.t a.held.now a.u _ c.find.ensures c.is_none.ensures c.if-is_none.false).1 in
    λ k h. sym (cond-false _ (get_or a.counters.now k 0) (and_right (in_block a.block a.u) (and_left (eqb (a.u % 2048) k) (here-held c.requires.0 p))))
