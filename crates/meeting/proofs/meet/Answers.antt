-- `meeting::meet` meets its contract: what is touched, and then entered or dropped, is met. Assumes nothing.
use mathlib.Core.Path.{◌≡◌}
use mathlib.Core.Bool.{false}
use native.Mathlib.Omega.{arith}
use Rattle.worktable.specs.Table.{map_of}
use Rattle.directed.specs.Directed.{due_of}
use Rattle.meeting.specs.Passing.{futile}
use Rattle.meeting.proofs.Entries as en
use Rattle.meeting.proofs.Leading as le
use Rattle.meeting.proofs.meet.Goals as goal

pub pass-told-requires : goal.pass-told-requires
pass-told-requires c =
    let a = c.args in
    let e = map_of a.t a.held.now a.u in
    (c.requires.in_order.0.order, c.requires.in_order.0.figure, λ h. omega (arith, c.requires.nonzero.0, en.left-known (due_of a.vertices.now a.row a.u) e h), c.requires.in_order.1)

pub enter_or_drop-requires : goal.enter_or_drop-requires
enter_or_drop-requires c =
    let a = c.args in
    let g = c.pass-told.ensures.gives in record {
      in_order = (record { order = g.holds.order; low = c.requires.in_order.0.low; few = c.requires.in_order.0.few; figure = c.requires.in_order.0.figure }, le.told-there a.row.arriving.allowed.0 a.t a.held.now a.u a.offer.0 g c.pass-told.result c.pass-told.ensures.passed_is);
      u_nonzero = le.new-there (futile a.row.arriving.allowed.0 a.offer.0 (due_of a.vertices.now a.row a.u) ≡ false) a.t a.held.now a.u a.offer.0 (due_of a.vertices.now a.row a.u) g c.requires.nonzero.0 c.requires.nonzero.1;
    }

pub returns : goal.returns
returns c =
    let a = c.args in
    le.touched-met a.row.arriving.allowed.0 a.t a.held.now a.u a.offer.0 (due_of a.vertices.now a.row a.u) c.pass-told.ensures.gives c.enter_or_drop.ensures
