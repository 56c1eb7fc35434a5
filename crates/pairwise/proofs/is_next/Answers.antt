use Prim.Native.Nat.{◌-◌}
use mathlib.Core.Path.{sym, ap, ◌∙◌}
use mathlib.Core.Bool.{Bool, true, false, ◌&&◌}
use Rattle.reread.specs.Read.{stops_here}
use Rattle.pairwise.specs.Asked.{asked}
use Rattle.pairwise.proofs.Answers.{next-told, next-none}
use Rattle.pairwise.proofs.is_next.Goals as goal

pub returns-then-a-b : goal.returns-then-a-b
unfolding asked
returns-then-a-b c =
    let a = c.args in
    next-told (stops_here a.c a.stops.now a.trips.now a.text.now a.from) a.p a.i c.stop_at-a.ensures c.stop_at-b.ensures c.requires.n_value.0
    (ap (λ (x : Bool). c.stop_at-a.result.timed && c.stop_at-b.result.timed && x) (sym c.is_sooner-ahead.ensures) ∙ c.if-a-b.true) c.any.ensures

pub returns : goal.returns
returns c =
    let a = c.args in
    next-none (stops_here a.c a.stops.now a.trips.now a.text.now a.from) a.p a.i c.stop_at-a.ensures c.stop_at-b.ensures
    (ap (λ (x : Bool). c.stop_at-a.result.timed && c.stop_at-b.result.timed && x) (sym c.is_sooner-ahead.ensures) ∙ c.if-a-b.false)
