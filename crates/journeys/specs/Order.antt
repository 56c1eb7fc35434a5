-- The order of settling, RULES 8.1: by steps, so that rides may take no time. Assumes nothing.
use Rattle.std.specs.Prelude.{◌≡◌, ◌⊎◌, List, [], ◌∷◌, ◌++◌, ℕ, ◌≤◌, ◌<◌}
use Rattle.journeys.specs.Counting.{In}
use Rattle.journeys.specs.Tables.{Tables}
use Rattle.journeys.specs.Query.{Query, allowed}
use Rattle.journeys.specs.Journeys.{Distance}
use Rattle.journeys.specs.Network.{Network}
use Rattle.journeys.specs.Records.{network}
pub use Rattle.journeys.specs.Settled.{Settled, settled}

-- the smaller distance comes first, and of equal ones the smaller number
abbrev pub Earlier : Settled → Settled → Type 0
Earlier a b = (a.distance < b.distance) ⊎ ((a.distance ≡ b.distance) × (a.vertex < b.vertex))

-- a seed, or a record into S, offers v the distance d
abbrev pub Offers : Network → List Settled → ℕ → ℕ → Type 0
Offers G S v d =
    (G.seed v ≡ d) ⊎ ((r : ℕ) × (x : ℕ) × (r < G.records) × (G.from r ≡ v) × In (settled (G.to r) x) S × (G.offer r x ≡ d))

-- `distance` says which number is the true distance of a vertex: that of the journeys, which no S changes.
module _ (G : Network) (distance : ℕ → ℕ → Type 0) (D : ℕ) where
  -- x may follow S: it is not settled, and its true distance is at most D and offered by a seed or by a record into S
  pub record Eligible (S : List Settled) (x : Settled) : Type 0 where
    pub unsettled : (d : ℕ) → ¬ In (settled x.vertex d) S
    pub is : distance x.vertex x.distance
    pub low : x.distance ≤ D
    pub offered : Offers G S x.vertex x.distance

  -- x follows S: of all that may, none is earlier
  pub record Chosen (S : List Settled) (x : Settled) : Type 0 where
    pub may : Eligible S x
    pub first : (y : Settled) → Eligible S y → ¬ Earlier y x

  -- when S is settled, l is chosen step by step until none may follow
  abbrev pub Follows : List Settled → List Settled → Type 0
  Follows S [] = (x : Settled) → ¬ Eligible S x
  Follows S (x ∷ l) = Chosen S x × Follows (S ++ x ∷ []) l

  -- After k steps S is `take k l`.
  pub record Order (l : List Settled) : Type 0 where
    pub steps : Follows [] l

-- l is the order of settling for these tables and this query. What is said elsewhere of the order is said by this name, and proved by its laws.
abbrev pub IsOrder : Tables → Query → List Settled → Type 0
IsOrder N Q l = Order (network N Q) (Distance N Q) (allowed Q) l
