-- Records of hops whose trips are listed.
use Rattle.std.specs.Prelude.{◌≡◌, true, List, ℕ, ◌-◌, ◌/◌, ◌%◌, ◌<◌, ◌≤◌, ◌^◌, length}
use Rattle.journeys.specs.Counting.{none}
use Rattle.table_bytes.specs.Columns.{at}
use Rattle.feed.specs.Ids.{list_line}
use Rattle.hoporder.specs.Named.{line_from, number_at}

-- A trip is called by the place of its line in the list, counted from 1; the number on that line is the trip's.
unfoldable pub trip_at : List ℕ → ℕ → ℕ
trip_at trips k = number_at trips (k - 1)

abbrev pub trip_place : ℕ → ℕ
trip_place x = x / 2 ^ 64 % 2 ^ 64 % 2 ^ 32

-- that is a good line of the list
pub record Good (trips : List ℕ) (k : ℕ) : Type 0 where
  pub above : 0 < k
  pub within : k - 1 ≤ length trips
  pub good : list_line none (line_from trips (k - 1)) ≡ true

abbrev pub OnTrip : List ℕ → ℕ → Type 0
OnTrip trips x = Good trips (trip_place x)

abbrev pub OnTrips : List ℕ → List ℕ → Type 0
OnTrips trips R = (i : ℕ) → i < length R → OnTrip trips (at R i)
