use Prim.Native.Nat.{◌<◌}
use mathlib.Core.Path.{sym, ap, subst, ◌∙◌}
use lib.ListN.{set}
use Rattle.journeys.specs.Counting.{none}
use Rattle.sorting.specs.Sorted.{recs}
use Rattle.rows.proofs.Picks.{trip-placed, arrival-placed, departure-placed, stop-placed, sequence-placed}
use Rattle.stoplist.proofs.Parts.{good, below, all_fit, found-there, below-two-to-32, other-small}
use Rattle.stoplist.proofs.Packing.{made}
use Rattle.stoplist.proofs.write_line.Goals as goal

pub unwrap-p-requires : goal.unwrap-p-requires
unwrap-p-requires c = let a = c.args in all_fit a.c a.stops.now a.trips.now a.line.now c.requires.b_len.3 _ c.places_in.ensures

pub vertex_of-vertex-requires : goal.vertex_of-vertex-requires
vertex_of-vertex-requires c =
    let a = c.args in
    let p = c.requires in
    let g = good a.c a.stops.now a.trips.now a.line.now p.b_len.3 in
    let e = sym c.unwrap-p.ensures ∙ c.places_in.ensures in record {
      k_in_bounds = (below a.c a.stops.now a.trips.now a.line.now p.b_len.3 p.b_len.2.stop, stop-placed _ _ _ _ _ _ _ e);
      list_value = (p.stops_good, g.stop);
    }

pub listed_from-trip-requires : goal.listed_from-trip-requires
listed_from-trip-requires c =
    let a = c.args in
    let p = c.requires in
    let e = sym c.unwrap-p.ensures ∙ c.places_in.ensures in
    (below a.c a.stops.now a.trips.now a.line.now p.b_len.3 p.b_len.2.trip, trip-placed _ _ _ _ _ _ _ e)

pub number_from-sequence-requires : goal.number_from-sequence-requires
number_from-sequence-requires c =
    let a = c.args in
    let p = c.requires in
    let e = sym c.unwrap-p.ensures ∙ c.places_in.ensures in
    (below a.c a.stops.now a.trips.now a.line.now p.b_len.3 p.b_len.2.sequence, sequence-placed _ _ _ _ _ _ _ e, (good a.c a.stops.now a.trips.now a.line.now p.b_len.3).sequence)

pub times_of-times-requires : goal.times_of-times-requires
times_of-times-requires c =
    let a = c.args in
    let p = c.requires in
    let g = good a.c a.stops.now a.trips.now a.line.now p.b_len.3 in
    let e = sym c.unwrap-p.ensures ∙ c.places_in.ensures in record {
      arrival_in_bounds = (below a.c a.stops.now a.trips.now a.line.now p.b_len.3 p.b_len.2.arrival, g.arrival, arrival-placed _ _ _ _ _ _ _ e);
      departure_in_bounds = (below a.c a.stops.now a.trips.now a.line.now p.b_len.3 p.b_len.2.departure, g.departure, departure-placed _ _ _ _ _ _ _ e);
    }

pub overflow_cast-trip : goal.overflow_cast-trip
overflow_cast-trip c =
    let a = c.args in
    let p = c.requires in
    let g = good a.c a.stops.now a.trips.now a.line.now p.b_len.3 in
    let w = found-there none a.trips.now a.line.now a.c.trip (below a.c a.stops.now a.trips.now a.line.now p.b_len.3 p.b_len.2.trip) p.trips_good.0 g.trip c.listed_from-trip.ensures in
    record { fits = below-two-to-32 w.0 p.trips_good.1 }

pub put_stop-requires : goal.put_stop-requires
put_stop-requires c =
    let a = c.args in
    let p = c.requires in
    let g = good a.c a.stops.now a.trips.now a.line.now p.b_len.3 in
    (p.b_len.0, p.b_len.1, c.vertex_of-vertex.ensures.1, subst (λ x. x < 262144) (sym c.times_of-times.ensures.1) (other-small _ _ g.arrival g.departure), subst (λ x. x < 262144) (sym c.times_of-times.ensures.2) (other-small _ _ g.departure g.arrival))

pub returns : goal.returns
returns c =
    let a = c.args in
    c.put_stop.ensures ∙ ap (λ x. set (recs a.n a.b.now) a.j x) (made a.c a.stops.now a.trips.now a.number a.line.now c.vertex_of-vertex.ensures.0 c.listed_from-trip.ensures c.number_from-sequence.ensures c.times_of-times.ensures.0 c.times_of-times.ensures.1 c.times_of-times.ensures.2)
