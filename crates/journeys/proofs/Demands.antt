-- What the definitions promise a planner, in the words of RULES 18. Each theorem says in one sentence what it means. Assumes nothing.
use mathlib.Core.Path.{◌≡◌}
use mathlib.Core.Logic.{◌⊎◌, ◌↔◌, ◌≢◌}
use mathlib.Core.Bool.{true}
use mathlib.Core.List.{List, []}
use Prim.Native.Nat.{ℕ, ◌-◌, ◌≤◌, ◌<◌}
use native.Mathlib.Omega.{arith}
use lib.ListN.{take}
use Rattle.journeys.specs.Counting.{none, In}
use Rattle.journeys.specs.Tables.{Tables, walk, vertex_count, walk_count}
use Rattle.journeys.specs.Query.{Query, allowed}
use Rattle.journeys.specs.Journeys.{Journey, Distance, Inside}
use Rattle.journeys.specs.Order.{Settled, settled, IsOrder}
use Rattle.journeys.specs.Network.{distance_in, known, met, held, row, entry, held_list, Dropped, Forgotten}
use Rattle.journeys.specs.Records.{network}
use Rattle.journeys.specs.Parts.{part_list, Covered}
use Rattle.journeys.proofs.Ways.{Arrives}
use Rattle.journeys.proofs.Greedy.{arrives-dec, dist-exists}
use Rattle.journeys.proofs.Told as theory
use Rattle.journeys.proofs.Valid.{on-either}
use Rattle.journeys.specs.Valid.{Valid}
use Rattle.journeys.proofs.Document.{ways, laws, told, journey-arrives, arrives-journey, dist-distance, allowed-low}
use Rattle.journeys.proofs.OrderLaws.{order-each, order-all}
use Rattle.journeys.proofs.Coverage.{covered-inside, inside-covered}

-- ---- journeys and distances
-- Who could start later can start earlier: one waits.
pub start-earlier : (N : Tables) (Q : Query) (v d d' : ℕ) → d ≤ d' → Journey N Q v d → Journey N Q v d'
start-earlier N Q v d d' h j = Journey.wait h j

-- A vertex has one distance.
pub distance-one : (N : Tables) (Q : Query) (v d d' : ℕ) → Distance N Q v d → Distance N Q v d' → d ≡ d'
distance-one N Q v d d' x y = omega (arith, x.latest d' y.starts, y.latest d x.starts)

module _ (N : Tables) (Q : Query) (ok : Valid N Q) where
  -- Whoever has a journey has a latest one.
  pub distance-exists : (v b : ℕ) → b < none → Journey N Q v b → (d : ℕ) × Distance N Q v d × (d ≤ b)
  distance-exists v b h j = let x = dist-exists (network N Q) (ways N Q) (laws N Q ok) v b h (journey-arrives N Q ok j) in (x.0, dist-distance N Q ok x.1, x.2)

  -- Whether there is a journey can be decided.
  pub journey-decided : (v b : ℕ) → b < none → Dec (Journey N Q v b)
  journey-decided v b h = go (arrives-dec (network N Q) (ways N Q) (laws N Q ok) v b h)
    where
      go : Dec (Arrives (network N Q) (ways N Q) v b) → Dec (Journey N Q v b)
      go (yes j) = yes (arrives-journey N Q ok j)
      go (no q) = no (λ j. q (journey-arrives N Q ok j))

  module _ {l : List Settled} (O : IsOrder N Q l) where
    -- ---- demand 2
    -- A vertex is listed exactly if a journey from it starts within the window and arrives by T.
    pub listed-exactly : (v : ℕ) → ((d : ℕ) × In (settled v d) l) ↔ ((d : ℕ) × (d ≤ allowed Q) × Journey N Q v d)
    listed-exactly v = (
      λ x. let e = order-each N Q ok O v x.0 x.1 in (x.0, e.1, e.0.starts),
      λ x.
          let y = distance-exists v x.0 (omega (arith, allowed-low N Q ok)) x.2 in
          (y.0, order-all N Q ok O v y.0 y.1 (omega arith)),
    )

    -- Its figure is T less the latest such start.
    pub figure-exactly : (v d : ℕ) → In (settled v d) l → Distance N Q v d
    figure-exactly v d i = (order-each N Q ok O v d i).0

    -- A whole-decimetre place inside a walk record lies in a listed part exactly if a journey starts there within the window.
    pub place-exactly : (i x : ℕ) → i < walk_count N → 0 < x → x < (walk N i).len → Covered (part_list N Q l) i x ↔ ((d : ℕ) × (d ≤ allowed Q) × Inside N Q i x d)
    place-exactly i x il x0 xl =
        (λ c. (allowed Q, omega arith, covered-inside N Q ok O i x il x0 xl c), λ y. inside-covered N Q ok O i x il x0 xl (Inside.wait y.1 y.2))

    -- A point of a road with a twin is covered, by either record, exactly if a journey starts there along either.
    pub point-exactly : (i x : ℕ) → i < walk_count N → (walk N i).twin ≢ none → 0 < x → x < (walk N i).len
        → (Covered (part_list N Q l) i x ⊎ Covered (part_list N Q l) (walk N i).twin ((walk N i).len - x))
        ↔ (((d : ℕ) × (d ≤ allowed Q) × Inside N Q i x d) ⊎ ((d : ℕ) × (d ≤ allowed Q) × Inside N Q (walk N i).twin ((walk N i).len - x) d))
    point-exactly = on-either N ok.tables (Covered (part_list N Q l)) (λ i x. (d : ℕ) × (d ≤ allowed Q) × Inside N Q i x d) place-exactly

    -- ---- demand 3
    -- After k steps the working table lists a vertex exactly if it is held.
    pub held-exactly : (k v : ℕ) → v < vertex_count N
        → In (row (network N Q) (distance_in (take k l)) v) (held_list (network N Q) (distance_in (take k l))) ↔ (held (network N Q) (distance_in (take k l)) v ≡ true)
    held-exactly k = theory.held-exactly (network N Q) (distance_in (take k l))

    -- It is held exactly if it has been met, is not in S with all its departing records leading into S, and is not outside S with all of them leading into S and known
    -- above D. Exactly at D it stays.
    pub held-means : (k v : ℕ) → (held (network N Q) (distance_in (take k l)) v ≡ true)
        ↔ ((met (network N Q) (distance_in (take k l)) v ≡ true)
        × ¬ Dropped (network N Q) (distance_in (take k l)) v
        × ¬ Forgotten (network N Q) (distance_in (take k l)) v)
    held-means k = theory.held-means (network N Q) (distance_in (take k l))

    -- What is known of a settled vertex is its distance.
    pub known-settled : (k v : ℕ) → v < vertex_count N → distance_in (take k l) v < none → known (network N Q) (distance_in (take k l)) v ≡ distance_in (take k l) v
    known-settled = theory.known-settled (network N Q) (ways N Q) (Distance N Q) (told N Q ok) O

    -- A dropped vertex is absent at every larger limit.
    pub dropped-stays-absent : (k k' : ℕ) → k ≤ k' → (v : ℕ) → Dropped (network N Q) (distance_in (take k l)) v → entry (network N Q) (distance_in (take k' l)) v ≡ []
    dropped-stays-absent = theory.dropped-stays-absent (network N Q) (ways N Q) (Distance N Q) (told N Q ok) O

    -- A forgotten vertex is settled at no larger limit: no record is left that could offer it D or less.
    pub forgotten-unsettled : (k k' : ℕ) → k ≤ k' → (v : ℕ) → Forgotten (network N Q) (distance_in (take k l)) v → none ≤ distance_in (take k' l) v
    forgotten-unsettled = theory.forgotten-unsettled (network N Q) (ways N Q) (Distance N Q) (told N Q ok) O

    -- It is absent at every larger limit.
    pub forgotten-stays-absent : (k k' : ℕ) → k ≤ k' → (v : ℕ) → Forgotten (network N Q) (distance_in (take k l)) v → entry (network N Q) (distance_in (take k' l)) v ≡ []
    forgotten-stays-absent = theory.forgotten-stays-absent (network N Q) (ways N Q) (Distance N Q) (told N Q ok) O
