-- `arrivals::scarce` meets its contract: from the start on, and then from the lowest block up to it. Assumes nothing.
use mathlib.Core.Path.{ap, ◌∙◌}
use native.Mathlib.Omega.{arith}
use Rattle.passing.specs.Row.{passes}
use Rattle.directed.specs.Directed.{row_in}
use Rattle.worktable.specs.Map.{Map, size}
use Rattle.worktable.specs.Table.{map_of}
use Rattle.meeting.proofs.Leading.{here-room, none-lacks}
use Rattle.meeting.proofs.Loops.{from_low}
use Rattle.arrivals.specs.Range.{over_to}
use Rattle.arrivals.proofs.BlocksAreStep as bs
use Rattle.arrivals.proofs.scarce.Goals as goal

pub end_range-requires : goal.end_range-requires
end_range-requires c =
    let a = c.args in
    let y = c.requires.0 in
    let R = row_in a.vertices.now a.walks.now a.hops.now a.list.now a.row in
    let n = passes a.row.arriving in
    let m = map_of a.t a.held.now in
    let low = from_low a.vertices.now a.walks.now a.hops.now a.list.now a.row y.near in
    let v = c.survey_all-start.ensures.0 in
    let k = c.survey_all-start.result in
    let w = v.touched in
    (record { order = w.holds.order; sound = y.sound; near = y.near; fresh = λ u p q z. bs.fresh-touched R n m y.enough low k v.low v.best y.few w.holds.map u z }, c.survey_all-start.ensures.1, v.low, omega arith)

pub returns-in_err-table : goal.returns-in_err-table
returns-in_err-table c =
    let a = c.args in
    let y = c.requires.0 in
    let R = row_in a.vertices.now a.walks.now a.hops.now a.list.now a.row in
    let n = passes a.row.arriving in
    let m = map_of a.t a.held.now in
    let low = from_low a.vertices.now a.walks.now a.hops.now a.list.now a.row y.near in
    let v = c.survey_all-start.ensures.0 in
    let k = c.survey_all-start.result in
    let x = c.end_range in
    let h = c.survey_all-start.new.held in
    let z = bs.range-full R n k 32 a.t x.new.held (map_of a.t h) x.ensures.0 c.in_err-table.was in
    let e = ap (λ (M : Map). size (over_to R n k z.0 M)) v.touched.holds.map in
    (none-lacks a.t x.new.held _ (omega (arith, z.3, e, bs.first-room R n m y.enough low k v.low v.best z.0 z.1 z.2, here-room y.order)) c.from_residual.ensures, x.ensures.1)

pub end_range-requires-2 : goal.end_range-requires-2
end_range-requires-2 c =
    let a = c.args in
    let y = c.requires.0 in
    let R = row_in a.vertices.now a.walks.now a.hops.now a.list.now a.row in
    let n = passes a.row.arriving in
    let m = map_of a.t a.held.now in
    let low = from_low a.vertices.now a.walks.now a.hops.now a.list.now a.row y.near in
    let v = c.survey_all-start.ensures.0 in
    let k = c.survey_all-start.result in
    let x = c.end_range in
    let h = c.survey_all-start.new.held in
    let w = bs.range-fits R n k 32 a.t x.new.held (map_of a.t h) x.ensures.0 c.in_ok-table.was in
    let e = w.holds.map ∙ ap (over_to R n k 32) v.touched.holds.map in
    (record { order = w.holds.order; sound = y.sound; near = y.near; fresh = λ u p q z. bs.fresh-lower R n m y.enough low k v.low v.best y.few e u q z }, x.ensures.1, omega arith, v.low)

pub returns : goal.returns
returns c =
    let a = c.args in
    let y = c.requires.0 in
    let R = row_in a.vertices.now a.walks.now a.hops.now a.list.now a.row in
    let n = passes a.row.arriving in
    let m = map_of a.t a.held.now in
    let low = from_low a.vertices.now a.walks.now a.hops.now a.list.now a.row y.near in
    let v = c.survey_all-start.ensures.0 in
    let k = c.survey_all-start.result in
    let x = c.end_range in
    let h = c.survey_all-start.new.held in
    let w = bs.range-fits R n k 32 a.t x.new.held (map_of a.t h) x.ensures.0 c.in_ok-table.was in
    let e = w.holds.map ∙ ap (over_to R n k 32) v.touched.holds.map in
    let z = c.end_range-2 in
    (bs.step-over R n k a.t c.in_ok-table.table z.new.held z.result w.room e (bs.all-over R n m y.enough low k v.low v.best) (λ i l. bs.second-room R n m y.enough low k v.low v.best i l) z.ensures.0, z.ensures.1)
