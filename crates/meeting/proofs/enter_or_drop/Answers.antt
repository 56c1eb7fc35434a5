-- `meeting::enter_or_drop` meets its contract: each answer of the look leads to the entry that `entered` tells. Assumes nothing.
use mathlib.Core.Path.{ap}
use Rattle.worktable.specs.Map.{put}
use Rattle.worktable.specs.Table.{map_of}
use Rattle.worktable.proofs.MapLaws.{spent-held}
use Rattle.worktable.proofs.PassLaws.{passed-absent, passed-kept, passed-spent}
use Rattle.directed.specs.Directed.{due_of}
use Rattle.meeting.proofs.Entries as en
use Rattle.meeting.proofs.Leading as le
use Rattle.meeting.proofs.enter_or_drop.Goals as goal

pub enter-requires : goal.enter-requires
enter-requires c =
    let a = c.args in
    let z = passed-absent a.row.arriving.allowed.0 a.t a.held.now a.u (map_of a.t a.held.now a.u) c.requires.in_order.1 c.in-Absent.is in record {
      in_order = (c.requires.in_order.0, z);
      u_nonzero = c.requires.u_nonzero z;
    }

pub returns-in-Absent : goal.returns-in-Absent
returns-in-Absent c =
    let a = c.args in
    let e = map_of a.t a.held.now a.u in
    let z = passed-absent a.row.arriving.allowed.0 a.t a.held.now a.u e c.requires.in_order.1 c.in-Absent.is in
    le.leads-same c.enter.ensures
    (ap (put (map_of a.t a.held.now) a.u) (en.entered-new a.row.arriving.allowed.0 a.offer.0 (due_of a.vertices.now a.row a.u) e z))

pub returns-in-Kept : goal.returns-in-Kept
returns-in-Kept c =
    let a = c.args in
    let m = map_of a.t a.held.now in
    let d = due_of a.vertices.now a.row a.u in
    let k = passed-kept a.row.arriving.allowed.0 a.t a.held.now a.u (m a.u) c.requires.in_order.1 c.in-Kept.is in
    le.leads-here c.requires.in_order.0.order (le.stays_put m a.u _ (en.entered-kept a.row.arriving.allowed.0 a.offer.0 d (m a.u) k.0 k.1))

pub drop-requires : goal.drop-requires
drop-requires c =
    let a = c.args in
    let k = passed-spent a.row.arriving.allowed.0 a.t a.held.now a.u (map_of a.t a.held.now a.u) c.requires.in_order.1 c.in-Spent.is in
    (c.requires.in_order.0.order, k.0)

pub returns-in-Spent : goal.returns-in-Spent
returns-in-Spent c =
    let a = c.args in
    let e = map_of a.t a.held.now a.u in
    let k = passed-spent a.row.arriving.allowed.0 a.t a.held.now a.u e c.requires.in_order.1 c.in-Spent.is in
    le.leads-gives c.drop.ensures (ap (put (map_of a.t a.held.now) a.u) (en.entered-spent a.row.arriving.allowed.0 a.offer.0 (due_of a.vertices.now a.row a.u) e (spent-held a.row.arriving.allowed.0 k.1) k.1))
