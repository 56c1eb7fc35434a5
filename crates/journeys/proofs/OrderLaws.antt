-- The order of settling for given tables and a query: that there is one and only one, what comes next in it, when it is over. Assumes nothing.
-- This is what a search cites: nothing above it looks at what stands behind the name `IsOrder`. All but the last three are the laws of `Told` for these tables.
use mathlib.Core.Path.{◌≡◌}
use mathlib.Core.Logic.{◌↔◌}
use mathlib.Core.List.{List, [], ◌∷◌, ◌++◌}
use Prim.Native.Nat.{ℕ, suc, ◌≤◌, ◌<◌}
use lib.ListN.{length, take, drop}
use Rattle.journeys.specs.Counting.{none, In}
use Rattle.journeys.specs.Tables.{Tables, vertex_count}
use Rattle.journeys.specs.Query.{Query, allowed}
use Rattle.journeys.specs.Journeys.{Distance}
use Rattle.journeys.specs.Order.{Settled, settled, IsOrder}
use Rattle.journeys.specs.Network.{distance_in, known}
use Rattle.journeys.specs.Records.{network}
use Rattle.journeys.proofs.Known.{Next, Bound}
use Rattle.journeys.proofs.Greedy.{State, run}
use Rattle.journeys.proofs.Told as theory
use Rattle.journeys.specs.Valid.{Valid}
use Rattle.journeys.proofs.Document.{ways, told, allowed-low}
use Rattle.journeys.proofs.Fits as fits

module _ (N : Tables) (Q : Query) (ok : Valid N Q) where
  -- There is an order of settling.
  unfoldable pub order_of : List Settled
  order_of = run (network N Q) (allowed Q) (vertex_count N) []

  pub order_is : IsOrder N Q order_of
  unfolding order_of theory.order_of
  order_is = theory.order_is (network N Q) (ways N Q) (Distance N Q) (told N Q ok)

  -- It is the only one.
  pub order-unique : {l l' : List Settled} → IsOrder N Q l → IsOrder N Q l' → l ≡ l'
  order-unique = theory.order-unique (network N Q) (ways N Q) (Distance N Q) (told N Q ok)

  module _ {l : List Settled} (O : IsOrder N Q l) where
    -- It lists the vertices with a distance at most D, each with its distance, and no other.
    pub order-each : (v d : ℕ) → In (settled v d) l → Distance N Q v d × (d ≤ allowed Q)
    order-each = theory.order-each (network N Q) (ways N Q) (Distance N Q) (told N Q ok) O

    pub order-all : (v d : ℕ) → Distance N Q v d → d ≤ allowed Q → In (settled v d) l
    order-all = theory.order-all (network N Q) (ways N Q) (Distance N Q) (told N Q ok) O

    -- While a vertex within D is not settled, the order goes on: rides that lead to each other at one moment do not end it.
    pub order-goes-on : (k v d : ℕ) → Distance N Q v d → d ≤ allowed Q → ¬ In (settled v d) (take k l) → k < length l
    order-goes-on = theory.order-goes-on (network N Q) (ways N Q) (Distance N Q) (told N Q ok) O

    -- What is settled is no farther than what is to come.
    pub order-ascends : (k : ℕ) (x y : Settled) → In x (take k l) → In y (drop k l) → x.distance ≤ y.distance
    order-ascends = theory.order-ascends (network N Q) (ways N Q) (Distance N Q) (told N Q ok) O

    -- What is settled after k steps has its distance and is the start of the order.
    pub order-state : (k : ℕ) → State (network N Q) (ways N Q) (take k l)
    order-state = theory.order-state (network N Q) (ways N Q) (Distance N Q) (told N Q ok) O

    -- The least known of the vertices outside S, if within D, is the next in the order, with its distance.
    pub next-settled : (k : ℕ) → k ≤ length l → (v : ℕ) → Next (network N Q) (distance_in (take k l)) v → known (network N Q) (distance_in (take k l)) v ≤ allowed Q
        → (k < length l) × (take (suc k) l ≡ take k l ++ settled v (known (network N Q) (distance_in (take k l)) v) ∷ [])
    next-settled = theory.next-settled (network N Q) (ways N Q) (Distance N Q) (told N Q ok) O

    -- If no vertex outside S is known within D, S is everything within D, and the other way round.
    pub all_settled : (k : ℕ) → Bound (network N Q) (distance_in (take k l)) (suc (allowed Q)) ↔ (length l ≤ k)
    all_settled = theory.all_settled (network N Q) (ways N Q) (Distance N Q) (told N Q ok) O

    -- No vertex is settled twice, so there are no more steps than vertices.
    pub order-size : length l ≤ vertex_count N
    order-size = theory.order-size (network N Q) (ways N Q) (Distance N Q) (told N Q ok) O

    pub order-distinct : (k : ℕ) → fits.Distinct (take k l)
    order-distinct = fits.distinct (network N Q) (Distance N Q) (allowed Q) (allowed-low N Q ok) [] l O.steps

    -- A vertex that is settled stays settled, with its distance.
    pub order-grows : (k k' : ℕ) → k ≤ k' → (v : ℕ) → distance_in (take k l) v < none → distance_in (take k' l) v ≡ distance_in (take k l) v
    order-grows = theory.order-grows (network N Q) (ways N Q) (Distance N Q) (told N Q ok) O
