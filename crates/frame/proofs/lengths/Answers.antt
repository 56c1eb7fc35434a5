-- `frame::lengths` meets its contract: each return is the first test that fails. Assumes nothing.
use mathlib.Core.Path.{sym, ◌∙◌}
use Prim.Native.Nat.{◌*◌, ◌/◌, ◌%◌}
use lib.ListN.{length}
use borrow.Author.Tests.{not-true, not-false, eq-eqb, ne_eqb}
use Rattle.journeys.specs.Refusals.{or_else, unless, whole_of}
use Rattle.frame.specs.Frames.{frame_lengths}
use Rattle.frame.proofs.lengths.Goals as goal

pub returns-then-not-table_ok : goal.returns-then-not-table_ok
unfolding frame_lengths or_else unless
returns-then-not-table_ok c =
    c.refused.ensures.told ∙ rw (sym c.table_ok.ensures ∙ not-true c.table_ok.result c.if-not-table_ok.true-raw)

pub returns-then-list-ne0 : goal.returns-then-list-ne0
unfolding frame_lengths or_else unless whole_of
returns-then-list-ne0 c =
    let a = c.args in
    c.refused-then-list-ne0.ensures.told
    ∙ rw (sym c.table_ok.ensures ∙ not-false c.table_ok.result c.if-not-table_ok.false-raw, ne_eqb (length a.list.now % 8) 0 c.if-list-ne0.true)

pub returns-then-coordinates-vertices : goal.returns-then-coordinates-vertices
unfolding frame_lengths or_else unless whole_of
returns-then-coordinates-vertices c =
    let a = c.args in
    c.refused-then-coordinates-vertices.ensures.told
    ∙ rw (sym c.table_ok.ensures ∙ not-false c.table_ok.result c.if-not-table_ok.false-raw, eq-eqb (length a.list.now % 8) 0 c.if-list-ne0.false, ne_eqb (length a.coordinates.now) (8 * (length a.vertices.now / 12)) c.if-coordinates-vertices.true)

pub returns : goal.returns
unfolding frame_lengths or_else unless whole_of
returns c =
    let a = c.args in
    rw (sym c.table_ok.ensures ∙ not-false c.table_ok.result c.if-not-table_ok.false-raw, eq-eqb (length a.list.now % 8) 0 c.if-list-ne0.false, eq-eqb (length a.coordinates.now) (8 * (length a.vertices.now / 12)) c.if-coordinates-vertices.false)
