-- `arrivals::suffices` meets its contract: there is a slot for every vertex, or no more records bring an entry than slots are free. Assumes nothing.
use mathlib.Core.Bool.{not}
use Prim.Native.Nat.{◌/◌}
use native.Mathlib.Omega.{arith}
use lib.ListN.{length}
use borrow.Author.Tests.{leb-true}
use Rattle.journeys.proofs.Counting.{count_most}
use Rattle.passing.specs.Row.{passes}
use Rattle.directed.specs.Directed.{row_in}
use Rattle.worktable.specs.Table.{map_of}
use Rattle.meeting.specs.Passing.{futile}
use Rattle.meeting.proofs.Leading.{here-room}
use Rattle.meeting.proofs.Loops.{from_low}
use Rattle.meeting.proofs.Space.{few-comers, every-vertex}
use Rattle.arrivals.proofs.suffices.Goals as goal

pub returns-then-vertices-room : goal.returns-then-vertices-room
returns-then-vertices-room c =
    let a = c.args in
    let R = row_in a.vertices.now a.walks.now a.hops.now a.list.now a.row in
    let l = c.requires.near in
    λ z. every-vertex R (passes a.row.arriving) (length a.vertices.now / 12) a.t.room (map_of a.t a.held.now) l.vertices l.low c.requires.inside (omega (arith, c.if-vertices-room.true, c.room.ensures))

pub returns-then-row-spare : goal.returns-then-row-spare
returns-then-row-spare c =
    let a = c.args in
    let R = row_in a.vertices.now a.walks.now a.hops.now a.list.now a.row in
    let most = count_most (λ j. not (futile R.allowed (R.offer j) (R.departing (R.from j)))) (passes a.row.arriving) in
    λ z. few-comers R (passes a.row.arriving) a.t.room (map_of a.t a.held.now) (from_low a.vertices.now a.walks.now a.hops.now a.list.now a.row c.requires.near) (omega (arith, c.if-row-spare.true, c.free-spare.ensures, here-room c.requires.order, most))

pub returns : goal.returns
returns c =
    let a = c.args in
    let R = row_in a.vertices.now a.walks.now a.hops.now a.list.now a.row in
    λ z. few-comers R (passes a.row.arriving) a.t.room (map_of a.t a.held.now) (from_low a.vertices.now a.walks.now a.hops.now a.list.now a.row c.requires.near) (omega (arith, leb-true c.most_comers.result c.free-spare.result z, c.most_comers.ensures, c.free-spare.ensures, here-room c.requires.order))
