-- `short::add_one` meets its contract: a marked record whose vertex stays is met. Assumes nothing.
use mathlib.Core.Path.{sym, ap, ◌∙◌}
use mathlib.Core.Bool.{not}
use lib.Dec.{eqb}
use lib.ListN.{get_or}
use borrow.Author.Tests.{eq-eqb}
use Rattle.journeys.proofs.Tests.{and_left, and_right, cond-false}
use Rattle.passing.specs.Row.{passes}
use Rattle.directed.specs.Directed.{row_in}
use Rattle.worktable.specs.Table.{map_of}
use Rattle.meeting.specs.Passing.{meets}
use Rattle.meeting.proofs.Leading as le
use Rattle.short.specs.ShortRow.{lasting}
use Rattle.short.proofs.add_one.Goals as goal

pub returns-else-stays : goal.returns-else-stays
returns-else-stays c =
    let a = c.args in
    let R = row_in a.vertices.now a.walks.now a.hops.now a.list.now a.row in
    let m = map_of a.t a.held.now in
    let F = R.from a.j in
    let q = c.near_at-u.ensures in
    let off = and_right (not (eqb (get_or a.marks.now a.j 0) 0)) (ap (lasting R (passes a.row.arriving)) (sym q) ∙ sym c.stays.ensures ∙ c.if-stays.false) in
    le.fits-is (le.leads-here c.requires.in_order.0 (le.stays_put m F _ (sym (cond-false (meets R a.j (m F)) (m F) off))))

pub returns-else-marks-j-ne0 : goal.returns-else-marks-j-ne0
returns-else-marks-j-ne0 c =
    let a = c.args in
    let R = row_in a.vertices.now a.walks.now a.hops.now a.list.now a.row in
    let m = map_of a.t a.held.now in
    let F = R.from a.j in
    let off = and_left (lasting R (passes a.row.arriving) F) (ap not (eq-eqb (get_or a.marks.now a.j 0) 0 c.if-marks-j-ne0.false)) in
    le.fits-is (le.leads-here c.requires.in_order.0 (le.stays_put m F _ (sym (cond-false (meets R a.j (m F)) (m F) off))))
