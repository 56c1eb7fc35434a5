-- The records that arrive at a vertex as one row: the walks, and then the hops. Assumes nothing.
use Rattle.std.specs.Prelude.{cond, List, ℕ, ◌+◌, ◌-◌, ◌/◌, ◌<◌, ◌≤◌, ltb, length}
use Rattle.journeys.specs.Bytes.{clocked}
use Rattle.journeys.specs.Tables.{vertex_at, walk_at, hop_at}
use Rattle.journeys.specs.Query.{Query}
use Rattle.journeys.specs.Records as records
use Rattle.journeys.specs.Records.{Record, walked, ridden, offer}
use Rattle.words.specs.Quantities.{DayTime}
use Rattle.passing.specs.declared.Arriving.{Arriving}

-- of each record of a row, which vertex it leaves and what it offers; of each vertex, how many records leave it; and D
pub record Row : Type 0 where
  pub allowed : ℕ
  pub from : ℕ → ℕ
  pub offer : ℕ → ℕ
  pub departing : ℕ → ℕ

-- an offer asks the arrival and the speed of a query, and nothing else
abbrev pub asking : ℕ → ℕ → Query
asking arrival speed = record { walk = 0; offset = 0; arrival = arrival; duration = 0; speed = speed }

-- how many records there are
abbrev pub passes : Arriving → ℕ
passes a = a.walks + a.hops

-- record j of the row: walk j of the walks w, or a hop of the hops h
unfoldable pub record_of : List ℕ → List ℕ → Arriving → ℕ → Record
record_of w h a j = cond (ltb j a.walks) (walked (walk_at w j)) (ridden (hop_at a.size h (j - a.walks)))

abbrev pub from_of : List ℕ → List ℕ → Arriving → ℕ → ℕ
from_of w h a j = records.from (record_of w h a j)

abbrev pub offer_of : List ℕ → List ℕ → Arriving → ℕ → ℕ
offer_of w h a j = offer (asking (clocked a.arrival.0) a.speed) (record_of w h a j) a.distance.0

abbrev pub row_of : List ℕ → List ℕ → List ℕ → Arriving → Row
row_of v w h a = record { allowed = a.allowed.0; from = from_of w h a; offer = offer_of w h a; departing = λ u. (vertex_at v u).departing }

-- a hop that may be ridden or missed: both times within their limits, and the departure not after the arrival
pub record Rides (size : ℕ) (h : List ℕ) (i : ℕ) : Type 0 where
  pub departure : DayTime (hop_at size h i).departure
  pub arrival : DayTime (hop_at size h i).arrival
  pub ordered : (hop_at size h i).departure ≤ (hop_at size h i).arrival

-- the two parts have the records that are counted, and a record holds the fields of a hop
pub record Counted (w h : List ℕ) (a : Arriving) : Type 0 where
  pub walks : a.walks ≤ length w / 16
  pub hops : a.hops ≤ length h / a.size
  pub fits : 16 ≤ a.size

-- What a row has to be. Of a walk nothing is asked: whatever its length and its wait, its ticks fit.
pub record Sound (w h : List ℕ) (a : Arriving) : Type 0 where
  pub counted : Counted w h a
  pub times : (i : ℕ) → i < a.hops → Rides a.size h i
  pub distance : a.distance.0 ≤ 8640000
  pub arrival : DayTime (clocked a.arrival.0)
  pub speed : a.speed ≤ 100
  pub allowed : a.allowed.0 ≤ 8640000

-- its records leave vertices of the table v
pub record Leaves (v w h : List ℕ) (a : Arriving) : Type 0 where
  pub vertices : length v / 12 ≤ 65536
  pub low : (j : ℕ) → j < passes a → from_of w h a j < length v / 12
