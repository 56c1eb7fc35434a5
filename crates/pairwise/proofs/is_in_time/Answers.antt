use Prim.Native.Nat.{◌-◌}
use mathlib.Core.Bool.{true, false}
use Rattle.reread.specs.Read.{stops_here}
use Rattle.pairwise.specs.Asked.{asked}
use Rattle.pairwise.proofs.Answers.{time-early, time-told, untimed-told, untimed-none}
use Rattle.pairwise.proofs.is_in_time.Goals as goal

pub returns-then-h-2 : goal.returns-then-h-2
returns-then-h-2 c =
    let a = c.args in
    time-early (stops_here a.c a.stops.now a.trips.now a.text.now a.from) a.i c.stop_at-h.ensures c.if-h.true c.if-h-2.true

pub returns-then-h : goal.returns-then-h
returns-then-h c =
    let a = c.args in
    time-told (stops_here a.c a.stops.now a.trips.now a.text.now a.from) a.i c.stop_at-h.ensures c.requires.n_value.0 c.if-h.true c.if-h-2.false c.any_late.ensures

pub returns-then-any : goal.returns-then-any
unfolding asked
returns-then-any c =
    let a = c.args in
    untimed-told (stops_here a.c a.stops.now a.trips.now a.text.now a.from) a.i c.stop_at-h.ensures c.requires.n_value.0 c.if-h.false c.any.ensures c.if-any.true c.any-then-any.ensures

pub returns : goal.returns
unfolding asked
returns c =
    let a = c.args in
    untimed-none (stops_here a.c a.stops.now a.trips.now a.text.now a.from) a.i c.stop_at-h.ensures c.requires.n_value.0 c.if-h.false c.any.ensures c.if-any.false
