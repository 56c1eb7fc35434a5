-- `blocks::meet_in_room` meets its contract: the vertex is met, and it lacks room only where it is new and no slot is free. Assumes nothing.
use mathlib.Core.Path.{◌≡◌, refl, sym, ◌∙◌}
use mathlib.Core.Bool.{false}
use native.Mathlib.Omega.{arith}
use Rattle.directed.specs.Directed.{due_of}
use Rattle.worktable.specs.Table.{map_of}
use Rattle.meeting.specs.Passing.{futile}
use Rattle.meeting.specs.Answer.{ArrivedIs}
use Rattle.meeting.proofs.Entries as en
use Rattle.meeting.proofs.Leading as le
use Rattle.blocks.proofs.NextRecord as nx
use Rattle.blocks.proofs.meet_in_room.Goals as goal

pub pass-told-requires : goal.pass-told-requires
pass-told-requires c =
    let a = c.args in
    (c.requires.in_order.0.order, c.requires.in_order.0.figure, (λ h. omega (arith, c.requires.nonzero.0, en.left-known (due_of a.vertices.now a.row a.u) (map_of a.t a.held.now a.u) h)), c.requires.in_order.1)

pub returns-then-lacks_slot : goal.returns-then-lacks_slot
unfolding ArrivedIs
returns-then-lacks_slot c =
    let a = c.args in
    let d = due_of a.vertices.now a.row a.u in
    let p = c.pass-told in
    nx.no_slot a.row.arriving.allowed.0 a.t a.held.now a.u a.offer.0 d p.ensures.gives p.result p.ensures.passed_is (omega (arith, c.requires.in_order.0.low, c.requires.in_order.0.few)) (sym c.lacks_slot.ensures ∙ c.if-lacks_slot.true) c.requires.nonzero.1 refl

pub enter_or_drop-requires : goal.enter_or_drop-requires
enter_or_drop-requires c =
    let a = c.args in
    let p = c.pass-told in
    let d = due_of a.vertices.now a.row a.u in
    let x = a.offer.0 in record {
      in_order = (record { order = p.ensures.gives.holds.order; low = c.requires.in_order.0.low; few = c.requires.in_order.0.few; figure = c.requires.in_order.0.figure }, le.told-there a.row.arriving.allowed.0 a.t a.held.now a.u x p.ensures.gives p.result p.ensures.passed_is);
      u_nonzero = le.new-there (futile a.row.arriving.allowed.0 x d ≡ false) a.t a.held.now a.u x d p.ensures.gives c.requires.nonzero.0 (λ z q. nx.has-slot a.row.arriving.allowed.0 a.t a.held.now a.u x p.ensures.gives p.result p.ensures.passed_is (sym c.lacks_slot.ensures ∙ c.if-lacks_slot.false) z);
    }

pub returns : goal.returns
returns c =
    let a = c.args in
    let d = due_of a.vertices.now a.row a.u in
    le.fits-is (le.touched-met a.row.arriving.allowed.0 a.t a.held.now a.u a.offer.0 d c.pass-told.ensures.gives c.enter_or_drop.ensures)
