-- The order of settling with rides is that of a network: there is one and only one, and it lists who can be there in time. Assumes nothing.
use mathlib.Core.Path.{◌≡◌, sym, ap, subst, ◌∙◌}
use mathlib.Core.Logic.{◌⊎◌, inl, inr, ◌↔◌}
use mathlib.Core.Bool.{Bool, true, ◌&&◌}
use mathlib.Core.List.{List, [], ◌∷◌, ◌++◌}
use Prim.Native.Nat.{ℕ, ◌+◌, ◌-◌, ◌≤◌, ◌<◌}
use native.Mathlib.Omega.{arith}
use lib.Dec.{leb}
use lib.ListN.{length}
use borrow.Author.Tests.{leb-true, le-leb}
use Rattle.journeys.specs.Counting.{none, In}
use Rattle.journeys.specs.Tables.{Tables, hop, vertex_count, walk_count, hop_count}
use Rattle.journeys.specs.Query.{Query, allowed, before}
use Rattle.journeys.specs.Settled.{Settled, settled}
use Rattle.journeys.specs.Order.{Offers, Eligible, Follows, Order}
use Rattle.journeys.specs.Network.{Network}
use Rattle.journeys.specs.Records.{Record, from, to}
use Rattle.journeys.specs.Valid.{Valid}
use Rattle.journeys.proofs.Tests.{and_both, and-true, cond-true}
use Rattle.journeys.proofs.Counting.{in-snoc}
use Rattle.journeys.proofs.Ways.{Ways}
use Rattle.journeys.proofs.Gates.{gate-is}
use Rattle.journeys.proofs.Greedy.{run, dist-exists}
use Rattle.journeys.proofs.Told as theory
use Rattle.journeys.proofs.Document as document
use Rattle.journeys.proofs.Document.{Numbered, of-walk, of-hop, numbered, walk-record, hop-record}
use Rattle.boarding.specs.Rides.{Mode, Stays, Ride, alone, onward}
use Rattle.boarding.specs.RideJourneys.{standing, RideJourney, by_ride, RideDistance, Aboard}
use Rattle.boarding.specs.RideOrder.{RideOffers, RideEligible, RideFollows, IsRideOrder}
use Rattle.boarding.proofs.Links.{Link, gate, pass}
use Rattle.boarding.proofs.Boards.{boarded, aboard_in, aboard-is, is-aboard, before-mono}
use Rattle.boarding.proofs.Rides.{link_by, network_by, ways_by, hop-link, walk-link, ride-laws, journey-arrives, dist-distance, told}

-- each entry has its true distance
abbrev pub True : Tables → Query → Mode → List Settled → Type 0
True N Q M S = (x : Settled) → In x S → RideDistance N Q M x.vertex x.distance

-- ---- where true lists offer the same by a network, the order is the same
module _ (N : Tables) (Q : Query) (M : Mode) (ok : Valid N Q) (G : Network)
    (offers-there : (S : List Settled) → True N Q M S → (v d : ℕ) → RideOffers N Q M S v d → Offers G S v d)
    (offers-back : (S : List Settled) → True N Q M S → (v d : ℕ) → d < none → Offers G S v d → RideOffers N Q M S v d) where
  agree : (S : List Settled) → True N Q M S → (x : Settled) → RideEligible N Q M S x ↔ Eligible G (RideDistance N Q M) (allowed Q) S x
  agree S t x = (
    λ c. record { unsettled = c.unsettled; is = c.is; low = c.low; offered = offers-there S t x.vertex x.distance c.offered },
    λ c.
        record {
          unsettled = c.unsettled;
          is = c.is;
          low = c.low;
          offered = offers-back S t x.vertex x.distance (omega (arith, c.low, document.allowed-low N Q ok)) c.offered;
        },
  )

  true-snoc : (S : List Settled) (x : Settled) → True N Q M S → RideDistance N Q M x.vertex x.distance → True N Q M (S ++ x ∷ [])
  true-snoc S x t d y i = go (in-snoc S x y i)
    where
      go : In y S ⊎ (y ≡ x) → RideDistance N Q M y.vertex y.distance
      go (inl j) = t y j
      go (inr e) = subst (λ (z : Settled). RideDistance N Q M z.vertex z.distance) (sym e) d

  there : (S l : List Settled) → True N Q M S → RideFollows N Q M S l → Follows G (RideDistance N Q M) (allowed Q) S l
  there S [] t f = λ x c. f x ((agree S t x).1 c)
  there S (x ∷ l) t f = (
    record { may = (agree S t x).0 f.0.may; first = λ y c. f.0.first y ((agree S t y).1 c) },
    there (S ++ x ∷ []) l (true-snoc S x t f.0.may.is) f.1,
  )

  back : (S l : List Settled) → True N Q M S → Follows G (RideDistance N Q M) (allowed Q) S l → RideFollows N Q M S l
  back S [] t f = λ x c. f x ((agree S t x).0 c)
  back S (x ∷ l) t f = (
    record { may = (agree S t x).1 f.0.may; first = λ y c. f.0.first y ((agree S t y).0 c) },
    back (S ++ x ∷ []) l (true-snoc S x t f.0.may.is) f.1,
  )

  pub orders-alike : {l : List Settled} → IsRideOrder N Q M l ↔ Order G (RideDistance N Q M) (allowed Q) l
  orders-alike {l} = (λ O. record { steps = there [] l (λ x i. absurd i) O.steps }, λ O. record { steps = back [] l (λ x i. absurd i) O.steps })

-- ---- the stop where a hop that is in time ends is left within the boarding time of its arrival
pub stop-journey : (N : Tables) (Q : Query) (M : Mode) (j : ℕ) → Aboard N Q M j → RideJourney N Q M (hop N j).to (standing Q M (hop N j).arrival)
stop-journey N Q M j a = go a.ride a.in_time a.on
  where
    go : {i k : ℕ} → Ride N M i k → (hop N k).arrival ≤ Q.arrival → RideJourney N Q M (hop N k).to (before Q (hop N k).arrival)
        → RideJourney N Q M (hop N i).to (standing Q M (hop N i).arrival)
    go (alone i l) t on = RideJourney.wait (let z : before Q (hop N i).arrival ≤ standing Q M (hop N i).arrival = omega arith in z) on
    go (onward i {j = m} l s r) t on =
        let z : standing Q M (hop N m).departure ≤ standing Q M (hop N i).arrival = omega (arith, before-mono Q (hop N i).arrival (hop N m).departure s.in_time) in
        RideJourney.wait z (rw (← s.there) at (by_ride r t on))

-- A hop is on board in time exactly if one can alight at its "to" in time, or another that is on board in time may follow it.
pub aboard-exactly : (N : Tables) (Q : Query) (M : Mode) (i : ℕ) → i < hop_count N
    → Aboard N Q M i
    ↔ ((((hop N i).arrival ≤ Q.arrival) × RideJourney N Q M (hop N i).to (before Q (hop N i).arrival)) ⊎ ((j : ℕ) × Stays N M i j × Aboard N Q M j))
aboard-exactly N Q M i l = (λ a. there a.ride a.in_time a.on, back)
  where
    there : {i k : ℕ} → Ride N M i k → (hop N k).arrival ≤ Q.arrival → RideJourney N Q M (hop N k).to (before Q (hop N k).arrival)
        → (((hop N i).arrival ≤ Q.arrival) × RideJourney N Q M (hop N i).to (before Q (hop N i).arrival)) ⊎ ((j : ℕ) × Stays N M i j × Aboard N Q M j)
    there (alone _ _) t on = inl (t, on)
    there (onward _ {j = j} {k = k} _ s r) t on = inr (j, s, record { last = k; ride = r; in_time = t; on = on })

    back : (((hop N i).arrival ≤ Q.arrival) × RideJourney N Q M (hop N i).to (before Q (hop N i).arrival)) ⊎ ((j : ℕ) × Stays N M i j × Aboard N Q M j) → Aboard N Q M i
    back (inl x) = record { last = i; ride = alone i l; in_time = x.0; on = x.1 }
    back (inr x) = let a = x.2 in record { last = a.last; ride = onward i l x.1 a.ride; in_time = a.in_time; on = a.on }

-- what a gate gives below none is its figure
gate-figure : (Q : Query) (t : Bool) (x y d b : ℕ) → b < none → pass Q (gate t x y) d ≡ b → (t ≡ true) × (d ≤ x) × (y ≡ b)
unfolding pass
gate-figure Q t x y d b l e =
    let p = gate-is (t && leb d x) y b l (omega arith) in
    let q = and_both t _ p.0 in
    (q.0, leb-true d x q.1, sym (cond-true y none p.0) ∙ e)

figure-gate : (Q : Query) (t : Bool) (x y d : ℕ) → t ≡ true → d ≤ x → pass Q (gate t x y) d ≡ y
unfolding pass
figure-gate Q t x y d e h = cond-true y none (and-true e (le-leb d x h))

module _ (N : Tables) (Q : Query) (M : Mode) (ok : Valid N Q) where
  abbrev aboard : ℕ → Bool
  aboard = aboard_in N Q (boarded N Q M)

  -- the network of the rides
  abbrev pub ride_network : Network
  ride_network = network_by N Q M (aboard_in N Q (boarded N Q M))

  abbrev pub ride_ways : Ways
  ride_ways = ways_by N Q M (aboard_in N Q (boarded N Q M))

  pub ride-told : theory.Told ride_network ride_ways (RideDistance N Q M)
  ride-told = told N Q M ok aboard (aboard-is N Q M ok) (is-aboard N Q M ok)

  -- ---- a true list offers by the network what it offers by the definition
  module _ (S : List Settled) (t : True N Q M S) where
    offers-there : (v d : ℕ) → RideOffers N Q M S v d → Offers ride_network S v d
    unfolding pass
    offers-there v d (inl e) = inl e
    offers-there v d (inr (inl (i, x, l, f, m, e))) =
        inr (i, x, omega arith, ap from (walk-record N i l) ∙ f, rw (walk-record N i l) m, ap (λ (k : Link). pass Q k x) (walk-link N Q M ok aboard (aboard-is N Q M ok) (is-aboard N Q M ok) i l) ∙ e)
    offers-there v d (inr (inr (j, x, l, f, m, a, e))) =
        let near = (t (settled (hop N j).to x) m).latest (standing Q M (hop N j).arrival) (stop-journey N Q M j a) in
        inr (
          walk_count N + j,
          x,
          omega arith,
          ap from (hop-record N j) ∙ f,
          rw (hop-record N j) m,
          ap (λ (k : Link). pass Q k x) (hop-link N Q M ok aboard (aboard-is N Q M ok) (is-aboard N Q M ok) j)
              ∙ figure-gate Q (aboard j) (standing Q M (hop N j).arrival) (standing Q M (hop N j).departure) x (is-aboard N Q M ok j l a) near
              ∙ e,
        )

    by-record : (v d r x : ℕ) {w : Record} → Numbered N r w → d < none → from w ≡ v → In (settled (to w) x) S → pass Q (link_by Q M aboard (r - walk_count N) w) x ≡ d → RideOffers N Q M S v d
    unfolding pass
    by-record v d r x (of-walk l) h f m e = inr (inl (r, x, l, f, m, e))
    by-record v d r x (of-hop j l q) h f m e =
        let z : r - walk_count N ≡ j = omega arith in
        let g = gate-figure Q (aboard (r - walk_count N)) (standing Q M (hop N j).arrival) (standing Q M (hop N j).departure) x d h e in
        inr (inr (j, x, l, f, m, aboard-is N Q M ok j l (ap aboard (sym z) ∙ g.0), g.2))

    offers-back : (v d : ℕ) → d < none → Offers ride_network S v d → RideOffers N Q M S v d
    offers-back v d h (inl e) = inl e
    offers-back v d h (inr (r, x, l, f, m, e)) = by-record v d r x (numbered N r l) h f m e

  pub ride-order : {l : List Settled} → IsRideOrder N Q M l ↔ Order ride_network (RideDistance N Q M) (allowed Q) l
  ride-order = orders-alike N Q M ok ride_network offers-there offers-back

  -- There is an order of settling.
  unfoldable pub order_of : List Settled
  order_of = run ride_network (allowed Q) (vertex_count N) []

  pub order_is : IsRideOrder N Q M order_of
  unfolding order_of theory.order_of
  order_is = ride-order.1 (theory.order_is ride_network ride_ways (RideDistance N Q M) ride-told)

  -- It is the only one.
  pub order-unique : {l l' : List Settled} → IsRideOrder N Q M l → IsRideOrder N Q M l' → l ≡ l'
  order-unique O O' = theory.order-unique ride_network ride_ways (RideDistance N Q M) ride-told (ride-order.0 O) (ride-order.0 O')

  -- Whoever has a journey has a latest one.
  pub distance-exists : (v b : ℕ) → b < none → RideJourney N Q M v b → (d : ℕ) × RideDistance N Q M v d × (d ≤ b)
  distance-exists v b h j =
      let s = aboard-is N Q M ok in
      let f = is-aboard N Q M ok in
      let x = dist-exists ride_network ride_ways (ride-laws N Q M ok aboard s f) v b h (journey-arrives N Q M ok aboard s f j) in
      (x.0, dist-distance N Q M ok aboard s f x.1, x.2)

  module _ {l : List Settled} (O : IsRideOrder N Q M l) where
    -- It lists the vertices with a distance at most D, each with its distance, and no other.
    pub order-each : (v d : ℕ) → In (settled v d) l → RideDistance N Q M v d × (d ≤ allowed Q)
    order-each = theory.order-each ride_network ride_ways (RideDistance N Q M) ride-told (ride-order.0 O)

    pub order-all : (v d : ℕ) → RideDistance N Q M v d → d ≤ allowed Q → In (settled v d) l
    order-all = theory.order-all ride_network ride_ways (RideDistance N Q M) ride-told (ride-order.0 O)

    -- No vertex is settled twice, so there are no more steps than vertices.
    pub order-size : length l ≤ vertex_count N
    order-size = theory.order-size ride_network ride_ways (RideDistance N Q M) ride-told (ride-order.0 O)

    -- ---- demand 2 for the vertices, with rides in place of hops
    -- A vertex is listed exactly if a journey from it starts within the window and arrives by T.
    pub listed-exactly : (v : ℕ) → ((d : ℕ) × In (settled v d) l) ↔ ((d : ℕ) × (d ≤ allowed Q) × RideJourney N Q M v d)
    listed-exactly v = (
      λ x. let e = order-each v x.0 x.1 in (x.0, e.1, e.0.starts),
      λ x.
          let y = distance-exists v x.0 (omega (arith, document.allowed-low N Q ok)) x.2 in
          (y.0, order-all v y.0 y.1 (omega arith)),
    )

    -- Its figure is T less the latest such start.
    pub figure-exactly : (v d : ℕ) → In (settled v d) l → RideDistance N Q M v d
    figure-exactly v d i = (order-each v d i).0
