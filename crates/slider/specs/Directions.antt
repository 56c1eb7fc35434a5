-- What a search tells in either direction, for every query over the same tables: the settled list, and the covered places. Assumes nothing.
use Rattle.std.specs.Prelude.{◌≡◌, ◌↔◌, ℕ, ◌≤◌, ◌<◌, length}
use mathlib.Core.List.{List, flat_map}
use Rattle.journeys.specs.Bytes.{filled}
use Rattle.journeys.specs.Tables.{Tables, walk, walk_count}
use Rattle.journeys.specs.Query.{Query, allowed}
use Rattle.journeys.specs.Network.{Network}
use Rattle.journeys.specs.Order.{Settled, Order}
use Rattle.journeys.specs.Answers.{settled_bytes}
use Rattle.journeys.specs.Records as records
use Rattle.journeys.specs.Journeys.{Distance, Inside}
use Rattle.journeys.specs.CourierRecords as courier
use Rattle.journeys.specs.CourierJourneys.{CourierDistance, InsideReached}

-- `inside Q i x d`: at the place x inside the walk record i the time d is enough
pub record Direction : Type 1 where
  pub network : Query → Network
  pub distance : Query → ℕ → ℕ → Type 0
  pub inside : Query → ℕ → ℕ → ℕ → Type 0

-- the ordinary run, and the courier's
abbrev pub ordinary : Tables → Direction
ordinary N = record { network = records.network N; distance = Distance N; inside = Inside N }

abbrev pub couriers : Tables → Direction
couriers N = record { network = courier.network N; distance = CourierDistance N; inside = InsideReached N }

-- l is the order of settling of a query
abbrev pub Orders : Direction → Query → List Settled → Type 0
Orders R Q l = Order (R.network Q) (R.distance Q) (allowed Q) l

-- what a finished run leaves: so many counted records in the settled bytes, and they are its whole order, with zero behind
pub record Finished (R : Direction) (Q : Query) (count : ℕ) (buffer bytes : List ℕ) : Type 0 where
  pub order : List Settled
  pub is_order : Orders R Q order
  pub counted : count ≡ length order
  pub listed : bytes ≡ filled buffer (flat_map settled_bytes order)

-- `lies i x`, which is read off the bytes of a call for parts, says of each place inside a road record exactly whether the time allowed is enough there
pub record Covers (N : Tables) (R : Direction) (Q : Query) (lies : ℕ → ℕ → Type 0) : Type 0 where
  pub exactly : (i x : ℕ) → i < walk_count N → 0 < x → x < (walk N i).len → lies i x ↔ ((d : ℕ) × (d ≤ allowed Q) × R.inside Q i x d)
