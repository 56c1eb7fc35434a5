use mathlib.Core.Path.{sym, ◌∙◌}
use Rattle.stops.proofs.StopLines.{bad-arrival, bad-departure, sequence-told}
use Rattle.stops.proofs.timely.Goals as goal

pub returns-then-not-time_or_blank : goal.returns-then-not-time_or_blank
returns-then-not-time_or_blank c =
    sym (bad-arrival _ _ _ _ _ c.requires.arrival_lt_count.3 (sym c.if-not-time_or_blank.ensures))

pub returns-then-not-time_or_blank-2 : goal.returns-then-not-time_or_blank-2
returns-then-not-time_or_blank-2 c =
    sym (bad-departure _ _ _ _ _ c.requires.arrival_lt_count.3 (sym c.if-not-time_or_blank.ensures) (sym c.if-not-time_or_blank-2.ensures))

pub returns : goal.returns
returns c =
    c.is_some.ensures ∙ sequence-told _ _ _ _ _ c.requires.arrival_lt_count.3 (sym c.if-not-time_or_blank.ensures) (sym c.if-not-time_or_blank-2.ensures) _ (sym c.number_from.ensures)
