use Prim.Native.Nat.{◌-◌}
use mathlib.Core.Path.{sym, ap, ◌∙◌}
use Rattle.journeys.specs.Counting.{none}
use Rattle.rows.proofs.Picks.{trip-placed, arrival-placed, departure-placed, stop-placed, sequence-placed}
use Rattle.stoplist.proofs.Parts.{good, below, all_fit, found_some, found-there}
use Rattle.spelling.specs.Spelled.{number_at}
use Rattle.reread.proofs.Reading.{read_as_lem}
use Rattle.reread.proofs.halt_of.Goals as goal

pub unwrap-p-requires : goal.unwrap-p-requires
unwrap-p-requires c = let a = c.args in all_fit a.c a.stops.now a.trips.now a.line.now c.requires.1 _ c.places_in.ensures

pub vertex_of-vertex-requires : goal.vertex_of-vertex-requires
vertex_of-vertex-requires c =
    let a = c.args in
    let p = c.requires.0 in
    let g = good a.c a.stops.now a.trips.now a.line.now c.requires.1 in
    let e = sym c.unwrap-p.ensures ∙ c.places_in.ensures in record {
      k_in_bounds = (below a.c a.stops.now a.trips.now a.line.now c.requires.1 p.inside.stop, stop-placed _ _ _ _ _ _ _ e);
      list_value = (p.stops_good, g.stop);
    }

pub listed_from-trip-requires : goal.listed_from-trip-requires
listed_from-trip-requires c =
    let a = c.args in
    let p = c.requires.0 in
    let e = sym c.unwrap-p.ensures ∙ c.places_in.ensures in
    (below a.c a.stops.now a.trips.now a.line.now c.requires.1 p.inside.trip, trip-placed _ _ _ _ _ _ _ e)

pub overflow_sub-trip : goal.overflow_sub-trip
overflow_sub-trip c =
    let a = c.args in
    let p = c.requires.0 in
    let g = good a.c a.stops.now a.trips.now a.line.now c.requires.1 in
    found_some none a.trips.now a.line.now a.c.trip (below a.c a.stops.now a.trips.now a.line.now c.requires.1 p.inside.trip) p.trips_good g.trip c.listed_from-trip.ensures

pub number_at-own-requires : goal.number_at-own-requires
number_at-own-requires c =
    let a = c.args in
    let p = c.requires.0 in
    let g = good a.c a.stops.now a.trips.now a.line.now c.requires.1 in
    let w = found-there none a.trips.now a.line.now a.c.trip (below a.c a.stops.now a.trips.now a.line.now c.requires.1 p.inside.trip) p.trips_good g.trip c.listed_from-trip.ensures in
    rw c.trips.view_is (w.0, w.1)

pub number_from-sequence-requires : goal.number_from-sequence-requires
number_from-sequence-requires c =
    let a = c.args in
    let p = c.requires.0 in
    let e = sym c.unwrap-p.ensures ∙ c.places_in.ensures in
    (below a.c a.stops.now a.trips.now a.line.now c.requires.1 p.inside.sequence, sequence-placed _ _ _ _ _ _ _ e, (good a.c a.stops.now a.trips.now a.line.now c.requires.1).sequence)

pub times_of-times-requires : goal.times_of-times-requires
times_of-times-requires c =
    let a = c.args in
    let p = c.requires.0 in
    let g = good a.c a.stops.now a.trips.now a.line.now c.requires.1 in
    let e = sym c.unwrap-p.ensures ∙ c.places_in.ensures in record {
      arrival_in_bounds = (below a.c a.stops.now a.trips.now a.line.now c.requires.1 p.inside.arrival, g.arrival, arrival-placed _ _ _ _ _ _ _ e);
      departure_in_bounds = (below a.c a.stops.now a.trips.now a.line.now c.requires.1 p.inside.departure, g.departure, departure-placed _ _ _ _ _ _ _ e);
    }

pub returns : goal.returns
returns c =
    let a = c.args in
    let p = c.requires.0 in
    let g = good a.c a.stops.now a.trips.now a.line.now c.requires.1 in
    let w = found-there none a.trips.now a.line.now a.c.trip (below a.c a.stops.now a.trips.now a.line.now c.requires.1 p.inside.trip) p.trips_good g.trip c.listed_from-trip.ensures in
    read_as_lem a.c a.stops.now a.trips.now a.number a.line.now c.vertex_of-vertex.ensures.0 c.listed_from-trip.ensures (c.number_at-own.ensures ∙ ap (λ l. number_at l (c.listed_from-trip.result - 1)) c.trips.view_is ∙ w.2) c.number_from-sequence.ensures c.times_of-times.ensures.0 c.times_of-times.ensures.1 c.times_of-times.ensures.2
