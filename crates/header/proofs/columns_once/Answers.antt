use Rattle.header.proofs.Names.{all-five}
use mathlib.Core.Path.{refl}
use Rattle.feed.specs.Stops.{columns_once}
use Rattle.lines.specs.Spans.{quotes}
use Rattle.header.proofs.columns_once.Goals as goal

pub once-trip-requires : goal.once-trip-requires
unfolding quotes
once-trip-requires c = refl

pub once-arrival-requires : goal.once-arrival-requires
unfolding quotes
once-arrival-requires c = refl

pub once-departure-requires : goal.once-departure-requires
unfolding quotes
once-departure-requires c = refl

pub once-stop-requires : goal.once-stop-requires
unfolding quotes
once-stop-requires c = refl

pub once-sequence-requires : goal.once-sequence-requires
unfolding quotes
once-sequence-requires c = refl

pub returns : goal.returns
unfolding columns_once
returns c = all-five c.once-trip.ensures c.once-arrival.ensures c.once-departure.ensures c.once-stop.ensures c.once-sequence.ensures
