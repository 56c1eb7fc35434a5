use Prim.Native.Nat.{◌-◌}
use mathlib.Core.Bool.{true, false}
use Rattle.reread.specs.Read.{stops_here}
use Rattle.pairwise.proofs.Answers.{late-told, late-none}
use Rattle.pairwise.proofs.is_late.Goals as goal

pub returns-then-b-a : goal.returns-then-b-a
returns-then-b-a c =
    let a = c.args in
    late-told (stops_here a.c a.stops.now a.trips.now a.text.now a.from) a.p a.i c.stop_at-a.ensures c.stop_at-b.ensures c.if-b-a.true c.is_next.ensures

pub returns : goal.returns
returns c =
    let a = c.args in
    late-none (stops_here a.c a.stops.now a.trips.now a.text.now a.from) a.p a.i c.stop_at-a.ensures c.stop_at-b.ensures c.if-b-a.false
