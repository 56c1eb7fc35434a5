-- The second demand for places with rides in place of hops: the parts of the whole order cover exactly the places from which such a journey starts in time. The parts
-- are those of RULES 10, which know nothing of boarding. Assumes nothing.
use mathlib.Core.Path.{◌≡◌, ap, ap₂, ◌∙◌}
use mathlib.Core.Logic.{◌⊎◌, inl, inr, ◌↔◌, ◌≢◌}
use mathlib.Core.List.{List}
use Prim.Native.Nat.{ℕ, ◌+◌, ◌-◌, ◌≤◌, ◌<◌}
use native.Mathlib.Omega.{arith}
use Rattle.journeys.specs.Counting.{none, In}
use Rattle.journeys.specs.Tables.{Tables, walk, walk_count}
use Rattle.journeys.specs.Query.{Query, asked, allowed, place_ticks, walk_ticks, from_ticks, to_ticks}
use Rattle.journeys.specs.Settled.{Settled, settled}
use Rattle.journeys.specs.Network.{Network}
use Rattle.journeys.specs.Parts.{near, part_list, Covered}
use Rattle.journeys.specs.Valid.{Valid}
use Rattle.journeys.proofs.Valid.{allowed-some, on-either}
use Rattle.journeys.proofs.Listing.{the_part}
use Rattle.journeys.proofs.Ways.{Ways, Dist}
use Rattle.journeys.proofs.Greedy.{Whole}
use Rattle.journeys.proofs.Cover.{Road, FromPlace, Piece, covers-from, from-covers}
use Rattle.journeys.proofs.Coverage.{road, listed-piece, near-where, piece-listed, near-asked, near-twin, few, sound}
use Rattle.journeys.proofs.Document.{allowed-low}
use Rattle.boarding.specs.Rides.{Mode}
use Rattle.boarding.specs.RideOrder.{IsRideOrder}
use Rattle.boarding.proofs.RideOrder.{ride_network, ride_ways, ride-told, order-each, order-all}
use Rattle.boarding.proofs.Boards.{boarded, aboard_in, aboard-is, is-aboard}
use Rattle.boarding.proofs.Rides.{journey-arrives, arrives-journey}
use Rattle.ride_demands.specs.RidePlaces.{RideInside, onward, straight, straight_twin}

-- a part of a road is one by whatever network
same-piece : {G G' : Network} {W W' : Ways} {D : ℕ} {S : List Settled} {r : Road} {a z : ℕ} → Piece G W D S r a z → Piece G' W' D S r a z
same-piece (Piece.first q) = Piece.first q
same-piece (Piece.later d j q) = Piece.later d j q

module _ (N : Tables) (Q : Query) (M : Mode) (ok : Valid N Q) where
  abbrev G : Network
  G = ride_network N Q M ok

  abbrev W : Ways
  W = ride_ways N Q M ok

  -- what it takes to the place along e, and along its twin
  along-e : (i : ℕ) → i ≡ Q.walk → (near N Q i ≡ Q.offset) × (place_ticks Q (walk N i) (near N Q i) ≡ from_ticks N Q)
  along-e i e = let q : near N Q i ≡ Q.offset = ap (near N Q) e ∙ near-asked N Q ok in (q, ap₂ (λ (k o : ℕ). place_ticks Q (walk N k) o) e q)

  along_twin : (i : ℕ) → i < walk_count N → i ≡ (asked N Q).twin → (near N Q i ≡ (asked N Q).len - Q.offset) × (place_ticks Q (walk N i) (near N Q i) ≡ to_ticks N Q)
  along_twin i l e =
      let q : near N Q i ≡ (asked N Q).len - Q.offset = ap (near N Q) e ∙ near-twin N Q ok (λ z. few N Q ok i l (e ∙ z)) in
      (q, ap₂ (λ (k o : ℕ). place_ticks Q (walk N k) o) e q)

  -- ---- a journey from inside a record is one from a place of its road
  inside-place : (i x b : ℕ) → i < walk_count N → x < (walk N i).len → RideInside N Q M i x b → FromPlace G W (road N Q i) x b
  inside-place i x b l xl (onward {d = d} j) = FromPlace.onward d (journey-arrives N Q M ok (aboard_in N Q (boarded N Q M)) (aboard-is N Q M ok) (is-aboard N Q M ok) j) (omega arith)
  inside-place i x b l xl (straight e h) = let q = along-e i e in FromPlace.straight (omega arith) (omega arith)
  inside-place i x b l xl (straight_twin e h) = let q = along_twin i l e in FromPlace.straight (omega arith) (omega arith)
  inside-place i x b l xl (RideInside.wait {d = d} h j) = up (inside-place i x d l xl j)
    where
      up : FromPlace G W (road N Q i) x d → FromPlace G W (road N Q i) x b
      up (FromPlace.straight a c) = FromPlace.straight a (omega arith)
      up (FromPlace.onward d' a c) = FromPlace.onward d' a (omega arith)

  place_inside : (i x b : ℕ) → i < walk_count N → 0 < x → FromPlace G W (road N Q i) x b → RideInside N Q M i x b
  place_inside i x b l x0 (FromPlace.straight h k) = go (near-where N Q i (omega arith))
    where
      go : (i ≡ Q.walk) ⊎ (i ≡ (asked N Q).twin) → RideInside N Q M i x b
      go (inl e) = let q = along-e i e in RideInside.wait (let z : from_ticks N Q - x ≤ b = omega arith in z) (straight e (omega arith))
      go (inr e) = let q = along_twin i l e in RideInside.wait (let z : to_ticks N Q - x ≤ b = omega arith in z) (straight_twin e (omega arith))
  place_inside i x b l x0 (FromPlace.onward d j h) =
      let q : d + (walk_ticks Q (walk N i) - x) ≤ b = omega arith in
      RideInside.wait q (onward (arrives-journey N Q M ok (aboard_in N Q (boarded N Q M)) (aboard-is N Q M ok) (is-aboard N Q M ok) j))

  module _ {l : List Settled} (O : IsRideOrder N Q M l) where
    each : (v d : ℕ) → In (settled v d) l → Dist G W v d
    each v d j = (ride-told N Q M ok).is-dist v d (order-each N Q M ok O v d j).0

    whole : Whole G W (allowed Q) l
    whole v d X h = order-all N Q M ok O v d ((ride-told N Q M ok).dist-is v d X) h

    -- A whole-decimetre place inside a walk record lies in a part of the order exactly if a journey with rides starts there within the window.
    pub place-exactly : (i x : ℕ) → i < walk_count N → 0 < x → x < (walk N i).len → Covered (part_list N Q l) i x ↔ ((d : ℕ) × (d ≤ allowed Q) × RideInside N Q M i x d)
    place-exactly i x il x0 xl = (
      λ c. (
        allowed Q,
        omega arith,
        place_inside i x (allowed Q) il x0
            (covers-from G W (allowed Q) l each (road N Q i) x (c.start, c.end, same-piece (listed-piece N Q l (the_part i c.start c.end) c.listed).1, c.low, c.high)),
      ),
      λ y.
          let c =
          from-covers G W (ride-told N Q M ok).laws (allowed Q) (allowed-some ok.query) (allowed-low N Q ok) l whole (road N Q i) (sound N Q ok i il) x x0 xl
          (inside-place i x (allowed Q) il xl (RideInside.wait y.1 y.2)) in
          record { start = c.0; end = c.1; listed = piece-listed N Q l i il (few N Q ok i il) (same-piece c.2); low = c.3; high = c.4 },
    )

    -- A point of a road with a twin is covered, by either record, exactly if such a journey starts there along either.
    pub point-exactly : (i x : ℕ) → i < walk_count N → (walk N i).twin ≢ none → 0 < x → x < (walk N i).len
        → (Covered (part_list N Q l) i x ⊎ Covered (part_list N Q l) (walk N i).twin ((walk N i).len - x))
        ↔ (((d : ℕ) × (d ≤ allowed Q) × RideInside N Q M i x d) ⊎ ((d : ℕ) × (d ≤ allowed Q) × RideInside N Q M (walk N i).twin ((walk N i).len - x) d))
    point-exactly = on-either N ok.tables (Covered (part_list N Q l)) (λ i x. (d : ℕ) × (d ≤ allowed Q) × RideInside N Q M i x d) place-exactly
