-- A row in either direction. The courier's: the records that leave a vertex, by a stretch of the list of record numbers, 4 bytes each; those below the number of walks are walks, the others hops. Assumes nothing.
use Rattle.std.specs.Prelude.{◌≡◌, true, false, cond, List, ℕ, ◌+◌, ◌-◌, ◌*◌, ◌/◌, ◌<◌, ◌≤◌, min, ltb, length}
use Rattle.journeys.specs.Bytes.{be32, clocked}
use Rattle.journeys.specs.Tables.{vertex_at, walk_at, hop_at}
use Rattle.journeys.specs.Records as records
use Rattle.journeys.specs.Records.{Record, walked, ridden}
use Rattle.journeys.specs.CourierRecords as courier
use Rattle.words.specs.Quantities.{DayTime}
use Rattle.records.specs.Arriving.{first_of, end_of}
use Rattle.records.specs.declared.Kind.TheVariants.{Walks, Hops}
use Rattle.passing.specs.Row.{Row, asking, passes, from_of, offer_of, Rides, Counted, Sound}
use Rattle.directed.specs.declared.Directed.{Directed}

-- the number that stands at place j of the stretch l, and the record of the tables w and h that has it
abbrev pub number_of : List ℕ → ℕ → ℕ
number_of l j = be32 l (4 * j)

unfoldable pub listed_of : List ℕ → List ℕ → List ℕ → Directed → ℕ → Record
listed_of w h l a j = cond (ltb (number_of l j) a.ways) (walked (walk_at w (number_of l j))) (ridden (hop_at a.arriving.size h (number_of l j - a.ways)))

abbrev pub listed_to : List ℕ → List ℕ → List ℕ → Directed → ℕ → ℕ
listed_to w h l a j = records.to (listed_of w h l a j)

abbrev pub listed_offer : List ℕ → List ℕ → List ℕ → Directed → ℕ → ℕ
listed_offer w h l a j = courier.offer (asking (clocked a.arriving.arrival.0) a.arriving.speed) (listed_of w h l a j) a.arriving.distance.0

-- the vertex at the other end of record j, and what the record brings to it
abbrev pub near_of : List ℕ → List ℕ → List ℕ → Directed → ℕ → ℕ
near_of w h l a j = cond a.courier (listed_to w h l a j) (from_of w h a.arriving j)

abbrev pub brings_of : List ℕ → List ℕ → List ℕ → Directed → ℕ → ℕ
brings_of w h l a j = cond a.courier (listed_offer w h l a j) (offer_of w h a.arriving j)

-- how many records of u there are to be passed in all. No table has so many of them that the limits are felt.
unfoldable pub arrive_at : List ℕ → Directed → ℕ → ℕ
arrive_at v a u = min (end_of Walks v a.ways u - first_of Walks (vertex_at v u)) 524287 + min (end_of Hops v a.rides u - first_of Hops (vertex_at v u)) 524287

abbrev pub due_of : List ℕ → Directed → ℕ → ℕ
due_of v a u = cond a.courier (arrive_at v a u) (vertex_at v u).departing

-- THE ROW of v's records in the direction that a tells
abbrev pub row_in : List ℕ → List ℕ → List ℕ → List ℕ → Directed → Row
row_in v w h l a = record { allowed = a.arriving.allowed.0; from = near_of w h l a; offer = brings_of w h l a; departing = due_of v a }

-- the stretch has a number for each record, which is that of a walk or of a hop
pub record Listed (w h l : List ℕ) (a : Directed) : Type 0 where
  pub list : passes a.arriving ≤ length l / 4
  pub walks : a.ways ≤ length w / 16
  pub hops : (j : ℕ) → j < passes a.arriving → a.ways ≤ number_of l j → number_of l j - a.ways < length h / a.arriving.size
  pub fits : 16 ≤ a.arriving.size

-- what the courier's row has to be: as `Sound`
pub record ListedSound (w h l : List ℕ) (a : Directed) : Type 0 where
  pub listed : Listed w h l a
  pub times : (j : ℕ) → j < passes a.arriving → a.ways ≤ number_of l j → Rides a.arriving.size h (number_of l j - a.ways)
  pub distance : a.arriving.distance.0 ≤ 8640000
  pub arrival : DayTime (clocked a.arriving.arrival.0)
  pub speed : a.arriving.speed ≤ 100
  pub allowed : a.arriving.allowed.0 ≤ 8640000

-- the same in the direction that a tells
pub record Numbered (w h l : List ℕ) (a : Directed) : Type 0 where
  pub here : a.courier ≡ false → Counted w h a.arriving
  pub there : a.courier ≡ true → Listed w h l a

pub record Passable (w h l : List ℕ) (a : Directed) : Type 0 where
  pub here : a.courier ≡ false → Sound w h a.arriving
  pub there : a.courier ≡ true → ListedSound w h l a

-- its records have vertices of the table v at their other ends
pub record Near (v w h l : List ℕ) (a : Directed) : Type 0 where
  pub vertices : length v / 12 ≤ 65536
  pub low : (j : ℕ) → j < passes a.arriving → near_of w h l a j < length v / 12
