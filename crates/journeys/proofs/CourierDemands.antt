-- What the definitions promise a dispatcher, in the words of RULES 18 and 27. Each theorem says in one sentence what it means. Assumes nothing.
use mathlib.Core.Path.{◌≡◌}
use mathlib.Core.Logic.{◌⊎◌, ◌↔◌, ◌≢◌}
use mathlib.Core.Bool.{true}
use mathlib.Core.List.{List, []}
use Prim.Native.Nat.{ℕ, ◌-◌, ◌≤◌, ◌<◌}
use native.Mathlib.Omega.{arith}
use lib.ListN.{take}
use Rattle.journeys.specs.Counting.{none, In}
use Rattle.journeys.specs.Tables.{Tables, walk, vertex_count, walk_count}
use Rattle.journeys.specs.Query.{Query, allowed}
use Rattle.journeys.specs.CourierJourneys.{Reached, CourierDistance, InsideReached}
use Rattle.journeys.specs.Order.{Settled, settled}
use Rattle.journeys.specs.Network.{distance_in, known, met, held, row, entry, held_list, Dropped, Forgotten}
use Rattle.journeys.specs.CourierRecords.{network}
use Rattle.journeys.specs.CourierOrder.{IsCourierOrder}
use Rattle.journeys.specs.Parts.{Covered}
use Rattle.journeys.specs.CourierParts.{part_list}
use Rattle.journeys.specs.Valid.{Valid}
use Rattle.journeys.proofs.Ways.{Arrives}
use Rattle.journeys.proofs.Greedy.{arrives-dec, dist-exists}
use Rattle.journeys.proofs.Told as theory
use Rattle.journeys.proofs.CourierOrder.{order-each, order-all}
use Rattle.journeys.proofs.CourierCoverage.{covered-inside, inside-covered}
use Rattle.journeys.proofs.Valid.{on-either}
use Rattle.journeys.proofs.CourierDocument.{ways, laws, told, reached-arrives, arrives-reached, dist-distance}

-- ---- journeys and distances
-- A vertex has one distance.
pub distance-one : (N : Tables) (Q : Query) (v d d' : ℕ) → CourierDistance N Q v d → CourierDistance N Q v d' → d ≡ d'
distance-one N Q v d d' x y = omega (arith, x.earliest d' y.arrives, y.earliest d x.arrives)

module _ (N : Tables) (Q : Query) (ok : Valid N Q) where
  -- Where the courier can be, he has an earliest arrival.
  pub distance-exists : (v b : ℕ) → b < none → Reached N Q v b → (d : ℕ) × CourierDistance N Q v d × (d ≤ b)
  distance-exists v b h j = let x = dist-exists (network N Q) (ways N Q) (laws N Q ok) v b h (reached-arrives N Q ok j) in (x.0, dist-distance N Q ok x.1, x.2)

  -- Whether he can be there can be decided.
  pub reached-decided : (v b : ℕ) → b < none → Dec (Reached N Q v b)
  reached-decided v b h = go (arrives-dec (network N Q) (ways N Q) (laws N Q ok) v b h)
    where
      go : Dec (Arrives (network N Q) (ways N Q) v b) → Dec (Reached N Q v b)
      go (yes j) = yes (arrives-reached N Q ok j)
      go (no q) = no (λ j. q (reached-arrives N Q ok j))

  module _ {l : List Settled} (O : IsCourierOrder N Q l) where
    -- ---- demand 2
    -- A vertex is listed exactly if the courier can be there within the window.
    pub listed-exactly : (v : ℕ) → ((d : ℕ) × In (settled v d) l) ↔ ((d : ℕ) × (d ≤ allowed Q) × Reached N Q v d)
    listed-exactly v = (
      λ x. let e = order-each N Q ok O v x.0 x.1 in (x.0, e.1, e.0.arrives),
      λ x.
          let y = distance-exists v x.0 (omega (arith, (told N Q ok).few)) x.2 in
          (y.0, order-all N Q ok O v y.0 y.1 (omega arith)),
    )

    -- Its figure is the earliest such arrival less T.
    pub figure-exactly : (v d : ℕ) → In (settled v d) l → CourierDistance N Q v d
    figure-exactly v d i = (order-each N Q ok O v d i).0

    -- A whole-decimetre place inside a walk record lies in a listed part exactly if the courier can be there within the window.
    pub place-exactly : (i x : ℕ) → i < walk_count N → 0 < x → x < (walk N i).len → Covered (part_list N Q l) i x ↔ ((d : ℕ) × (d ≤ allowed Q) × InsideReached N Q i x d)
    place-exactly i x il x0 xl =
        (λ c. (allowed Q, omega arith, covered-inside N Q ok O i x il x0 xl c), λ y. inside-covered N Q ok O i x il x0 xl (InsideReached.wait y.1 y.2))

    -- A point of a road with a twin is covered, by either record, exactly if the courier can be there along either.
    pub point-exactly : (i x : ℕ) → i < walk_count N → (walk N i).twin ≢ none → 0 < x → x < (walk N i).len
        → (Covered (part_list N Q l) i x ⊎ Covered (part_list N Q l) (walk N i).twin ((walk N i).len - x))
        ↔ (((d : ℕ) × (d ≤ allowed Q) × InsideReached N Q i x d) ⊎ ((d : ℕ) × (d ≤ allowed Q) × InsideReached N Q (walk N i).twin ((walk N i).len - x) d))
    point-exactly = on-either N ok.tables (Covered (part_list N Q l)) (λ i x. (d : ℕ) × (d ≤ allowed Q) × InsideReached N Q i x d) place-exactly

    -- ---- demand 3
    -- After k steps the working table lists a vertex exactly if it is held.
    pub held-exactly : (k v : ℕ) → v < vertex_count N
        → In (row (network N Q) (distance_in (take k l)) v) (held_list (network N Q) (distance_in (take k l))) ↔ (held (network N Q) (distance_in (take k l)) v ≡ true)
    held-exactly k = theory.held-exactly (network N Q) (distance_in (take k l))

    -- It is held exactly if it has been met, is not in S with all its arriving records coming from S, and is not outside S with all of them coming from S and known above D.
    pub held-means : (k v : ℕ) → (held (network N Q) (distance_in (take k l)) v ≡ true)
        ↔ ((met (network N Q) (distance_in (take k l)) v ≡ true)
        × ¬ Dropped (network N Q) (distance_in (take k l)) v
        × ¬ Forgotten (network N Q) (distance_in (take k l)) v)
    held-means k = theory.held-means (network N Q) (distance_in (take k l))

    -- What is known of a settled vertex is its distance.
    pub known-settled : (k v : ℕ) → v < vertex_count N → distance_in (take k l) v < none → known (network N Q) (distance_in (take k l)) v ≡ distance_in (take k l) v
    known-settled = theory.known-settled (network N Q) (ways N Q) (CourierDistance N Q) (told N Q ok) O

    -- A dropped vertex is absent at every larger limit.
    pub dropped-stays-absent : (k k' : ℕ) → k ≤ k' → (v : ℕ) → Dropped (network N Q) (distance_in (take k l)) v → entry (network N Q) (distance_in (take k' l)) v ≡ []
    dropped-stays-absent = theory.dropped-stays-absent (network N Q) (ways N Q) (CourierDistance N Q) (told N Q ok) O

    -- A forgotten vertex is settled at no larger limit, and is absent there.
    pub forgotten-unsettled : (k k' : ℕ) → k ≤ k' → (v : ℕ) → Forgotten (network N Q) (distance_in (take k l)) v → none ≤ distance_in (take k' l) v
    forgotten-unsettled = theory.forgotten-unsettled (network N Q) (ways N Q) (CourierDistance N Q) (told N Q ok) O

    pub forgotten-stays-absent : (k k' : ℕ) → k ≤ k' → (v : ℕ) → Forgotten (network N Q) (distance_in (take k l)) v → entry (network N Q) (distance_in (take k' l)) v ≡ []
    forgotten-stays-absent = theory.forgotten-stays-absent (network N Q) (ways N Q) (CourierDistance N Q) (told N Q ok) O
