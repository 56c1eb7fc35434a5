-- The order of settling with rides, RULES 29: that of RULES 8.1, by steps, where a ride offers by its first hop. Assumes nothing.
use Rattle.std.specs.Prelude.{◌≡◌, ◌⊎◌, List, [], ◌∷◌, ◌++◌, ℕ, ◌+◌, ◌≤◌, ◌<◌}
use Rattle.journeys.specs.Counting.{In}
use Rattle.journeys.specs.Tables.{Tables, walk, hop, walk_count, hop_count}
use Rattle.journeys.specs.Query.{Query, allowed, walk_ticks}
use Rattle.journeys.specs.Settled.{Settled, settled}
use Rattle.journeys.specs.Order.{Earlier}
use Rattle.journeys.specs.Records.{seed}
use Rattle.boarding.specs.Rides.{Mode}
use Rattle.boarding.specs.RideJourneys.{RideDistance, Aboard, standing}

module _ (N : Tables) (Q : Query) (M : Mode) where
  -- v is offered the distance d: by a seed, by a walk into S, or by a ride in time whose first hop leads into S
  abbrev pub RideOffers : List Settled → ℕ → ℕ → Type 0
  RideOffers S v d =
      (seed N Q v ≡ d)
      ⊎ ((i : ℕ) × (x : ℕ) × (i < walk_count N) × ((walk N i).from ≡ v) × In (settled (walk N i).to x) S × (x + walk_ticks Q (walk N i) ≡ d))
      ⊎ ((j : ℕ) × (x : ℕ) × (j < hop_count N) × ((hop N j).from ≡ v) × In (settled (hop N j).to x) S × Aboard N Q M j × (standing Q M (hop N j).departure ≡ d))

  -- x may follow S: it is not settled, and its true distance is at most D and offered
  pub record RideEligible (S : List Settled) (x : Settled) : Type 0 where
    pub unsettled : (d : ℕ) → ¬ In (settled x.vertex d) S
    pub is : RideDistance N Q M x.vertex x.distance
    pub low : x.distance ≤ allowed Q
    pub offered : RideOffers S x.vertex x.distance

  -- x follows S: of all that may, none is earlier
  pub record RideChosen (S : List Settled) (x : Settled) : Type 0 where
    pub may : RideEligible S x
    pub first : (y : Settled) → RideEligible S y → ¬ Earlier y x

  -- when S is settled, l is chosen step by step until none may follow
  abbrev pub RideFollows : List Settled → List Settled → Type 0
  RideFollows S [] = (x : Settled) → ¬ RideEligible S x
  RideFollows S (x ∷ l) = RideChosen S x × RideFollows (S ++ x ∷ []) l

  -- l is the order of settling
  pub record IsRideOrder (l : List Settled) : Type 0 where
    pub steps : RideFollows [] l
