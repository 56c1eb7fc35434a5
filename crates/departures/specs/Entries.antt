-- The stops that records stand for, and records that are, one by one, those of stops as the definitions tell them.
use Rattle.std.specs.Prelude.{◌≡◌, List, ℕ, ◌<◌, length}
use Rattle.table_bytes.specs.Columns.{at}
use Rattle.feed.specs.Stops.{Stop}
use Rattle.feed.specs.Trips.{stop}
use Rattle.succession.specs.Entries.{stop_in}
use Rattle.hoporder.specs.Named.{stops_named, Rising}
use Rattle.hopbytes.specs.Listing.{trip_at, Good}

-- a record has the number of its line, and for its trip the place of a line of the list, counted from 1
abbrev pub stops_at : List ℕ → List ℕ → List Stop
stops_at trips W = stops_named (λ x. x) (trip_at trips) W

pub record Listed (trips W : List ℕ) : Type 0 where
  pub rising : Rising W
  pub listed : (i : ℕ) → i < length W → Good trips (stop_in (at W i)).trip

-- two stops share a place of the list where they share a trip
pub record EntriesOf (trips : List ℕ) (S : List Stop) (W : List ℕ) : Type 0 where
  pub size : length S ≡ length W
  pub line : (i : ℕ) → i < length S → (stop S i).line ≡ (stop_in (at W i)).line
  pub trip_number : (i : ℕ) → i < length S → (stop S i).trip_number ≡ trip_at trips (stop_in (at W i)).trip
  pub together : (i j : ℕ) → i < length S → j < length S → (stop S i).trip ≡ (stop S j).trip → (stop_in (at W i)).trip ≡ (stop_in (at W j)).trip
  pub apart : (i j : ℕ) → i < length S → j < length S → (stop_in (at W i)).trip ≡ (stop_in (at W j)).trip → (stop S i).trip ≡ (stop S j).trip
  pub sequence : (i : ℕ) → i < length S → (stop S i).sequence ≡ (stop_in (at W i)).sequence
  pub vertex : (i : ℕ) → i < length S → (stop S i).vertex ≡ (stop_in (at W i)).vertex
  pub timed : (i : ℕ) → i < length S → (stop S i).timed ≡ (stop_in (at W i)).timed
  pub arrival : (i : ℕ) → i < length S → (stop S i).arrival ≡ (stop_in (at W i)).arrival
  pub departure : (i : ℕ) → i < length S → (stop S i).departure ≡ (stop_in (at W i)).departure
