use Prim.Native.Nat.{◌-◌}
use mathlib.Core.Path.{sym, ◌∙◌}
use Rattle.reread.specs.Read.{stops_here}
use Rattle.pairwise.proofs.Answers.{good-once, good-time}
use Rattle.pairwise.proofs.is_good.Goals as goal

pub returns-then-number-from : goal.returns-then-number-from
returns-then-number-from c =
    let a = c.args in
    good-once (stops_here a.c a.stops.now a.trips.now a.text.now a.from) a.number a.i (c.if-number-from.true ∙ c.from.ensures) c.is_once.ensures

pub returns : goal.returns
returns c =
    let a = c.args in
    good-time (stops_here a.c a.stops.now a.trips.now a.text.now a.from) a.number a.i (λ e. c.if-number-from.false (e ∙ sym c.from.ensures)) c.is_in_time.ensures
