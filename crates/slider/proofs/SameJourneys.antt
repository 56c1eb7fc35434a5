-- The duration is no part of a journey: whoever can start can start, however long the way may take. Assumes nothing.
use Prim.Native.Nat.{ℕ}
use Rattle.journeys.specs.Tables.{Tables}
use Rattle.journeys.specs.Query.{Query}
use Rattle.journeys.specs.Journeys as journeys
use Rattle.journeys.specs.Journeys.{Journey, Distance, Inside}
use Rattle.journeys.specs.CourierJourneys as courier
use Rattle.journeys.specs.CourierJourneys.{Reached, CourierDistance, InsideReached}
use Rattle.slider.specs.Longer.{during}

module _ (N : Tables) (Q : Query) (s : ℕ) where
  pub journey-same : {v d : ℕ} → Journey N Q v d → Journey N (during Q s) v d
  journey-same Journey.from_end = Journey.from_end
  journey-same (Journey.to_end n) = Journey.to_end n
  journey-same (Journey.at_to e) = Journey.at_to e
  journey-same (Journey.by_walk i l j) = Journey.by_walk i l (journey-same j)
  journey-same (Journey.by_hop i l t j) = Journey.by_hop i l t (journey-same j)
  journey-same (Journey.wait h j) = Journey.wait h (journey-same j)

  pub reached-same : {v d : ℕ} → Reached N Q v d → Reached N (during Q s) v d
  reached-same Reached.along = Reached.along
  reached-same (Reached.along_twin n) = Reached.along_twin n
  reached-same (Reached.at_to e) = Reached.at_to e
  reached-same (Reached.at_from e) = Reached.at_from e
  reached-same (Reached.by_walk i l j) = Reached.by_walk i l (reached-same j)
  reached-same (Reached.by_hop i l t j) = Reached.by_hop i l t (reached-same j)
  reached-same (Reached.wait h j) = Reached.wait h (reached-same j)

module _ (N : Tables) (Q : Query) (s : ℕ) where
  pub inside-same : (i x d : ℕ) → Inside N Q i x d → Inside N (during Q s) i x d
  inside-same i x d (Inside.onward j) = Inside.onward (journey-same N Q s j)
  inside-same i x d (Inside.straight e l) = Inside.straight e l
  inside-same i x d (Inside.straight_twin e l) = Inside.straight_twin e l
  inside-same i x d (Inside.wait h j) = Inside.wait h (inside-same i x _ j)

  pub inside-reached-same : (i x d : ℕ) → InsideReached N Q i x d → InsideReached N (during Q s) i x d
  inside-reached-same i x d (InsideReached.onward j) = InsideReached.onward (reached-same N Q s j)
  inside-reached-same i x d (InsideReached.straight e l) = InsideReached.straight e l
  inside-reached-same i x d (InsideReached.straight_twin e l) = InsideReached.straight_twin e l
  inside-reached-same i x d (InsideReached.wait h j) = InsideReached.wait h (inside-reached-same i x _ j)

  pub distance-same : (v d : ℕ) → Distance N Q v d → Distance N (during Q s) v d
  distance-same v d x = record { starts = journey-same N Q s x.starts; latest = λ d' j. x.latest d' (journey-same N (during Q s) Q.duration j) }

  pub courier-distance-same : (v d : ℕ) → CourierDistance N Q v d → CourierDistance N (during Q s) v d
  courier-distance-same v d x = record { arrives = reached-same N Q s x.arrives; earliest = λ d' j. x.earliest d' (reached-same N (during Q s) Q.duration j) }
