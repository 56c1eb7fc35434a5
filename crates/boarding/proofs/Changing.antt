-- What a boarding time does: with none the order is that of the ordinary run, and a longer one lists nobody more. Assumes nothing.
use mathlib.Core.Path.{◌≡◌, sym, ap, ◌∙◌}
use mathlib.Core.Logic.{inl, inr, ◌↔◌}
use mathlib.Core.Bool.{◌&&◌}
use mathlib.Core.List.{List}
use Prim.Native.Nat.{ℕ, ◌+◌, ◌*◌, ◌≤◌, ◌<◌}
use native.Mathlib.Nat.{mul-le-mul_right}
use native.Mathlib.Omega.{arith}
use lib.Dec.{leb}
use borrow.Author.Tests.{leb-true, le-leb}
use Rattle.journeys.specs.Counting.{none, In}
use Rattle.journeys.specs.Tables.{Tables, hop, walk_count}
use Rattle.journeys.specs.Query.{Query, before}
use Rattle.journeys.specs.Journeys.{Journey, Distance}
use Rattle.journeys.specs.Settled.{Settled, settled}
use Rattle.journeys.specs.Order.{Offers, IsOrder}
use Rattle.journeys.specs.Records.{Record, from, to, offer, network}
use Rattle.journeys.specs.Valid.{Valid}
use Rattle.journeys.proofs.Tests.{and_both, and-true, cond-true}
use Rattle.journeys.proofs.Gates.{gate-is}
use Rattle.journeys.proofs.Firsts.{order_same}
use Rattle.journeys.proofs.Document as document
use Rattle.journeys.proofs.Document.{Numbered, of-walk, of-hop, numbered, walk-record, hop-record}
use Rattle.boarding.specs.Rides.{Mode, Ride, alone, onward}
use Rattle.boarding.specs.RideJourneys.{board_ticks, standing, RideJourney, from_end, to_end, at_to, by_walk, by_ride, RideDistance}
use Rattle.boarding.specs.RideOrder.{RideOffers, IsRideOrder}
use Rattle.boarding.proofs.Boards.{before-mono, ride-spans}
use Rattle.boarding.proofs.RideOrder.{True, orders-alike, stop-journey, order-each, order-all, distance-exists}

-- ---- no boarding time
module _ (N : Tables) (Q : Query) (M : Mode) (ok : Valid N Q) (no-time : M.boarding ≡ 0) where
  at_once : board_ticks Q M ≡ 0
  at_once = omega (arith, ap (λ (x : ℕ). x * Q.speed) no-time)

  -- Who can hop can ride,
  pub journey-rides : {v d : ℕ} → Journey N Q v d → RideJourney N Q M v d
  journey-rides Journey.from_end = from_end
  journey-rides (Journey.to_end n) = to_end n
  journey-rides (Journey.at_to e) = at_to e
  journey-rides (Journey.by_walk i l j) = by_walk i l (journey-rides j)
  journey-rides (Journey.by_hop i l a j) =
      let z : standing Q M (hop N i).departure ≤ before Q (hop N i).departure = omega (arith, at_once) in
      RideJourney.wait z (by_ride (alone i l) a (journey-rides j))
  journey-rides (Journey.wait h j) = RideJourney.wait h (journey-rides j)

  -- the first hop of a ride arrives by T if the last one does
  first-in-time : {i k : ℕ} → Ride N M i k → (hop N k).arrival ≤ Q.arrival → (hop N i).arrival ≤ Q.arrival
  first-in-time r a = omega (arith, (ride-spans ok.tables r).1)

  by-hops : {i k : ℕ} → Ride N M i k → (hop N k).arrival ≤ Q.arrival → Journey N Q (hop N k).to (before Q (hop N k).arrival) → Journey N Q (hop N i).from (before Q (hop N i).departure)
  by-hops (alone i l) a j = Journey.by_hop i l a j
  by-hops (onward i {j = m} l s r) a j =
      Journey.by_hop i l (first-in-time (onward i l s r) a)
      (Journey.wait (before-mono Q (hop N i).arrival (hop N m).departure s.in_time) (rw (← s.there) at (by-hops r a j)))

  -- and who can ride can change at every stop.
  pub rides-journey : {v d : ℕ} → RideJourney N Q M v d → Journey N Q v d
  rides-journey from_end = Journey.from_end
  rides-journey (to_end n) = Journey.to_end n
  rides-journey (at_to e) = Journey.at_to e
  rides-journey (by_walk i l j) = Journey.by_walk i l (rides-journey j)
  rides-journey (by_ride {i = i} r a j) =
      let z : before Q (hop N i).departure ≤ standing Q M (hop N i).departure = omega arith in
      Journey.wait z (by-hops r a (rides-journey j))
  rides-journey (RideJourney.wait h j) = Journey.wait h (rides-journey j)

  -- The distances are those of the ordinary run,
  pub distance-rides : (v d : ℕ) → Distance N Q v d → RideDistance N Q M v d
  distance-rides v d x = record { starts = journey-rides x.starts; latest = λ b j. x.latest b (rides-journey j) }

  pub rides-distance : (v d : ℕ) → RideDistance N Q M v d → Distance N Q v d
  rides-distance v d x = record { starts = rides-journey x.starts; latest = λ b j. x.latest b (journey-rides j) }

  module _ (S : List Settled) (t : True N Q M S) where
    offers-there : (v d : ℕ) → RideOffers N Q M S v d → Offers (network N Q) S v d
    unfolding offer
    offers-there v d (inl e) = inl e
    offers-there v d (inr (inl (i, x, l, f, m, e))) =
        inr (i, x, omega arith, ap from (walk-record N i l) ∙ f, rw (walk-record N i l) m, ap (λ (w : Record). offer Q w x) (walk-record N i l) ∙ e)
    offers-there v d (inr (inr (j, x, l, f, m, a, e))) =
        let near : x ≤ before Q (hop N j).arrival = omega (arith, at_once, (t (settled (hop N j).to x) m).latest (standing Q M (hop N j).arrival) (stop-journey N Q M j a)) in
        let same : before Q (hop N j).departure ≡ d = omega (arith, at_once, e) in
        inr (
          walk_count N + j,
          x,
          omega arith,
          ap from (hop-record N j) ∙ f,
          rw (hop-record N j) m,
          ap (λ (w : Record). offer Q w x) (hop-record N j)
              ∙ cond-true (before Q (hop N j).departure) none (and-true (le-leb _ _ (first-in-time a.ride a.in_time)) (le-leb x (before Q (hop N j).arrival) near))
              ∙ same,
        )

    by-record : (v d r x : ℕ) {w : Record} → Numbered N r w → d < none → from w ≡ v → In (settled (to w) x) S → offer Q w x ≡ d → RideOffers N Q M S v d
    unfolding offer
    by-record v d r x (of-walk l) h f m e = inr (inl (r, x, l, f, m, e))
    by-record v d r x (of-hop j l q) h f m e =
        let p = gate-is (leb (hop N j).arrival Q.arrival && leb x (before Q (hop N j).arrival)) (before Q (hop N j).departure) d h (omega arith) in
        let g = and_both (leb (hop N j).arrival Q.arrival) _ p.0 in
        let same : before Q (hop N j).departure ≡ d = sym (cond-true (before Q (hop N j).departure) none p.0) ∙ e in
        let on = RideJourney.wait (leb-true x (before Q (hop N j).arrival) g.1) (t (settled (hop N j).to x) m).starts in
        inr (inr (j, x, l, f, m, record { last = j; ride = alone j l; in_time = leb-true _ _ g.0; on = on }, omega (arith, at_once)))

    offers-back : (v d : ℕ) → d < none → Offers (network N Q) S v d → RideOffers N Q M S v d
    offers-back v d h (inl e) = inl e
    offers-back v d h (inr (r, x, l, f, m, e)) = by-record v d r x (numbered N r l) h f m e

  -- and so is the order of settling: rides of no minutes among them.
  pub no-time-order : {l : List Settled} → IsRideOrder N Q M l ↔ IsOrder N Q l
  no-time-order {l} = (
    λ O. order_same (network N Q) rides-distance distance-rides ((orders-alike N Q M ok (network N Q) offers-there offers-back).0 O),
    λ O. (orders-alike N Q M ok (network N Q) offers-there offers-back).1 (order_same (network N Q) distance-rides rides-distance O),
  )

-- ---- two boarding times
abbrev pub mode_with : (ℕ → ℕ) → ℕ → Mode
mode_with trip boarding = record { trip = trip; boarding = boarding }

module _ (N : Tables) (Q : Query) (trip : ℕ → ℕ) (B B' : ℕ) (more : B ≤ B') where
  same-ride : {i k : ℕ} → Ride N (mode_with trip B') i k → Ride N (mode_with trip B) i k
  same-ride (alone j l) = alone j l
  same-ride (onward i l s r) = onward i l (record { known = s.known; one_trip = s.one_trip; there = s.there; in_time = s.in_time }) (same-ride r)

  -- Who has a longer boarding time to spend could as well spend a shorter one.
  pub shorter-journey : {v d : ℕ} → RideJourney N Q (mode_with trip B') v d → RideJourney N Q (mode_with trip B) v d
  shorter-journey from_end = from_end
  shorter-journey (to_end n) = to_end n
  shorter-journey (at_to e) = at_to e
  shorter-journey (by_walk i l j) = by_walk i l (shorter-journey j)
  shorter-journey (by_ride {i = i} r a j) =
      let z : standing Q (mode_with trip B) (hop N i).departure ≤ standing Q (mode_with trip B') (hop N i).departure = omega (arith, mul-le-mul_right Q.speed more) in
      RideJourney.wait z (by_ride (same-ride r) a (shorter-journey j))
  shorter-journey (RideJourney.wait h j) = RideJourney.wait h (shorter-journey j)

  -- A longer boarding time lists no vertex that a shorter one does not, and none nearer.
  pub longer-lists-fewer : Valid N Q → {l l' : List Settled} → IsRideOrder N Q (mode_with trip B) l → IsRideOrder N Q (mode_with trip B') l'
      → (v d : ℕ) → In (settled v d) l' → (d₀ : ℕ) × In (settled v d₀) l × (d₀ ≤ d)
  longer-lists-fewer ok {l} {l'} O O' v d i =
      let e = order-each N Q (mode_with trip B') ok O' v d i in
      let y = distance-exists N Q (mode_with trip B) ok v d (omega (arith, e.1, document.allowed-low N Q ok)) (shorter-journey e.0.starts) in
      (y.0, order-all N Q (mode_with trip B) ok O v y.0 y.1 (omega (arith, y.2, e.1)), y.2)
