-- Rides as a network of the vertices alone: a hop offers where who is on board is in time. The journeys with rides are those of the theory. Assumes nothing.
use mathlib.Core.Path.{◌≡◌, refl, sym, ap, ◌∙◌}
use mathlib.Core.Logic.{inl, inr}
use mathlib.Core.Bool.{Bool, true}
use Prim.Native.Nat.{ℕ, ◌+◌, ◌-◌, ◌≤◌, ◌<◌}
use native.Mathlib.Omega.{arith}
use Rattle.journeys.specs.Tables.{Tables, walk, hop, vertex_count, walk_count, hop_count}
use Rattle.journeys.specs.Query.{Query, allowed, before, walk_ticks, from_ticks, to_ticks}
use Rattle.journeys.specs.Network.{Network}
use Rattle.journeys.specs.Records.{Record, walked, ridden, from, to, record_count, record_at, seed}
use Rattle.journeys.specs.Valid.{Valid}
use Rattle.journeys.proofs.Ways.{Ways, Arrives, ends, leads, Dist, Laws, arrives-up}
use Rattle.journeys.proofs.Told.{Told}
use Rattle.journeys.proofs.Valid.{good-hop}
use Rattle.journeys.proofs.Document as document
use Rattle.journeys.proofs.Document.{Numbered, of-walk, of-hop, numbered, walk-record, hop-record}
use Rattle.boarding.specs.Rides.{Mode, Ride, alone, onward}
use Rattle.boarding.specs.RideJourneys.{standing, RideJourney, from_end, to_end, at_to, by_walk, by_ride, RideDistance, Aboard}
use Rattle.boarding.proofs.Links.{Link, foot, gate, pass, Passes, Forward, pass_up, pass-down, pass_le, pass-is}
use Rattle.boarding.proofs.Boards.{seed-are, before-mono, end-rides}

-- The link of a record; of a hop its number is given, too. Its "to" is within the boarding time of its arrival, as the proof shows.
abbrev pub link_by : Query → Mode → (ℕ → Bool) → ℕ → Record → Link
link_by Q M aboard j (walked w) = foot w
link_by Q M aboard j (ridden h) = gate (aboard j) (standing Q M h.arrival) (standing Q M h.departure)

abbrev pub ride_link : Tables → Query → Mode → (ℕ → Bool) → ℕ → Link
ride_link N Q M aboard r = link_by Q M aboard (r - walk_count N) (record_at N r)

abbrev pub network_by : Tables → Query → Mode → (ℕ → Bool) → Network
network_by N Q M aboard =
    record {
      vertices = vertex_count N;
      records = record_count N;
      allowed = allowed Q;
      from = λ r. from (record_at N r);
      to = λ r. to (record_at N r);
      seed = seed N Q;
      offer = λ r. pass Q (ride_link N Q M aboard r);
    }

abbrev pub ways_by : Tables → Query → Mode → (ℕ → Bool) → Ways
ways_by N Q M aboard = record { Ends = document.End N Q; Leads = λ r. Passes Q (ride_link N Q M aboard r) }

module _ (N : Tables) (Q : Query) (M : Mode) (ok : Valid N Q) (aboard : ℕ → Bool)
    (sound : (j : ℕ) → j < hop_count N → aboard j ≡ true → Aboard N Q M j)
    (full : (j : ℕ) → j < hop_count N → Aboard N Q M j → aboard j ≡ true) where
  abbrev G : Network
  G = network_by N Q M aboard

  abbrev W : Ways
  W = ways_by N Q M aboard

  forward : (r : ℕ) {x : Record} → Numbered N r x → Forward (link_by Q M aboard (r - walk_count N) x)
  forward r (of-walk l) = tt
  forward r (of-hop j l e) = omega (arith, before-mono Q (hop N j).departure (hop N j).arrival (good-hop N ok.tables j l).rides)

  pub ride-laws : Laws G W
  ride-laws =
      record {
        from_low = λ r l. (document.record-low N Q ok r (numbered N r l)).0;
        ends_low = (document.laws N Q ok).ends_low;
        ends-up = (document.laws N Q ok).ends-up;
        leads-up = λ r d b b' h o. pass_up Q (ride_link N Q M aboard r) d b b' h o;
        leads-down = λ r d d' b h o. pass-down Q (ride_link N Q M aboard r) d d' b h o;
        leads-le = λ r d b l o. pass_le Q (ride_link N Q M aboard r) d b (forward r (numbered N r l)) o;
        seed-is = λ v b vn l. seed-are N Q v b l;
        offer-is = λ r d b rl l. pass-is Q (ride_link N Q M aboard r) d b l;
      }

  -- the link of a hop by its record
  pub hop-link : (j : ℕ) → ride_link N Q M aboard (walk_count N + j) ≡ gate (aboard j) (standing Q M (hop N j).arrival) (standing Q M (hop N j).departure)
  hop-link j =
      let e : (walk_count N + j) - walk_count N ≡ j = omega arith in
      rw (hop-record N j) (rw e refl)

  pub walk-link : (i : ℕ) → i < walk_count N → ride_link N Q M aboard i ≡ foot (walk N i)
  walk-link i l = rw (walk-record N i l) refl

  -- ---- the journeys are those of the theory
  -- who is on board in time has been at every stop before within the boarding time of its departure
  ride-arrives : {i k : ℕ} → Ride N M i k → (hop N k).arrival ≤ Q.arrival → RideJourney N Q M (hop N k).to (before Q (hop N k).arrival)
      → Arrives G W (hop N k).to (before Q (hop N k).arrival) → Arrives G W (hop N i).from (standing Q M (hop N i).departure)
  ride-arrives {i} {k} r a on x = go r
    where
      board : (j : ℕ) → j < hop_count N → Aboard N Q M j → Arrives G W (hop N j).to (standing Q M (hop N j).arrival) → Arrives G W (hop N j).from (standing Q M (hop N j).departure)
      board j l b y =
          leads {b = standing Q M (hop N j).departure} (walk_count N + j) (standing Q M (hop N j).arrival) (omega arith) (ap from (hop-record N j))
          (rw (hop-link j) (full j l b, omega arith, omega arith)) (rw (hop-record N j) y)

      go : {j : ℕ} → Ride N M j k → Arrives G W (hop N j).from (standing Q M (hop N j).departure)
      go (alone j l) =
          board k l (record { last = k; ride = alone k l; in_time = a; on = on })
          (arrives-up G W ride-laws (standing Q M (hop N k).arrival) (let z : before Q (hop N k).arrival ≤ standing Q M (hop N k).arrival = omega arith in z) x)
      go (onward j {j = m} l s r) =
          board j l (record { last = k; ride = onward j l s r; in_time = a; on = on })
          (arrives-up G W ride-laws (standing Q M (hop N j).arrival) (omega (arith, before-mono Q (hop N j).arrival (hop N m).departure s.in_time)) (rw (← s.there) at (go r)))

  pub journey-arrives : {v d : ℕ} → RideJourney N Q M v d → Arrives G W v d
  journey-arrives from_end = ends {b = from_ticks N Q} (inl (refl, omega arith))
  journey-arrives (to_end n) = ends {b = to_ticks N Q} (inr (refl, inl n, omega arith))
  journey-arrives (at_to e) = ends {b = 0} (inr (refl, inr e, omega (arith, document.to-zero N Q ok e)))
  journey-arrives (by_walk i l {d = d} j) =
      leads {b = d + walk_ticks Q (walk N i)} i d (omega arith) (ap from (walk-record N i l)) (rw (walk-link i l) (omega arith)) (rw (walk-record N i l) (journey-arrives j))
  journey-arrives (by_ride r a j) = ride-arrives r a j (journey-arrives j)
  journey-arrives (RideJourney.wait {d' = d'} h j) = arrives-up G W ride-laws d' h (journey-arrives j)

  by-record : (v d b r : ℕ) {x : Record} → Numbered N r x → from x ≡ v → Passes Q (link_by Q M aboard (r - walk_count N) x) d b → RideJourney N Q M (to x) d → RideJourney N Q M v b
  by-record v d b r (of-walk l) f o j = RideJourney.wait o (rw f at (by_walk r l j))
  by-record v d b r (of-hop i l e) f o j =
      let q : r - walk_count N ≡ i = omega arith in
      let a = sound i l (ap aboard (sym q) ∙ o.0) in
      RideJourney.wait o.2 (rw f at (by_ride a.ride a.in_time a.on))

  pub arrives-journey : {v b : ℕ} → Arrives G W v b → RideJourney N Q M v b
  arrives-journey {v} {b} (ends s) = end-rides N Q M v b s
  arrives-journey {v} {b} (leads r d l f o j) = by-record v d b r (numbered N r l) f o (arrives-journey j)

  pub distance-dist : {v d : ℕ} → RideDistance N Q M v d → Dist G W v d
  distance-dist x = (journey-arrives x.starts, λ b j. x.latest b (arrives-journey j))

  pub dist-distance : {v d : ℕ} → Dist G W v d → RideDistance N Q M v d
  dist-distance x = record { starts = arrives-journey x.0; latest = λ b j. x.1 b (journey-arrives j) }

  -- The distance of the journeys with rides is the theory's.
  pub told : Told G W (RideDistance N Q M)
  told = record { laws = ride-laws; is-dist = λ v d. distance-dist; dist-is = λ v d. dist-distance; few = document.allowed-low N Q ok }
