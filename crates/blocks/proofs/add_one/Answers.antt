-- `blocks::add_one` meets its contract: a vertex that stays is met. Assumes nothing.
use mathlib.Core.Path.{sym, ◌∙◌}
use Rattle.directed.specs.Directed.{due_of}
use Rattle.journeys.proofs.Tests.{cond-false}
use Rattle.worktable.specs.Table.{map_of}
use Rattle.meeting.specs.Passing.{met}
use Rattle.meeting.proofs.Leading as le
use Rattle.blocks.proofs.add_one.Goals as goal

pub returns : goal.returns
returns c =
    let a = c.args in
    let m = map_of a.t a.held.now in
    let d = due_of a.vertices.now a.row a.u in
    let off = sym c.stays.ensures ∙ c.if-stays.false in
    le.fits-is (le.leads-here c.requires.in_order.0.order (le.stays_put m a.u _ (sym (cond-false (met a.row.arriving.allowed.0 a.offer.0 d (m a.u)) (m a.u) off))))
