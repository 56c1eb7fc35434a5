-- Two lists of the same stops, one by one, whose trips may have other names. Assumes nothing.
use Rattle.std.specs.Prelude.{◌≡◌, List, ℕ, ◌<◌, eqb, length}
use Rattle.feed.specs.Stops.{Stop}
use Rattle.feed.specs.Trips.{stop}

-- all that is judged: two stops share a trip in one list where they do in the other
pub record Alike (S T : List Stop) : Type 0 where
  pub size : length S ≡ length T
  pub trip : (i j : ℕ) → i < length S → j < length S → eqb (stop S i).trip (stop S j).trip ≡ eqb (stop T i).trip (stop T j).trip
  pub sequence : (i : ℕ) → i < length S → (stop S i).sequence ≡ (stop T i).sequence
  pub vertex : (i : ℕ) → i < length S → (stop S i).vertex ≡ (stop T i).vertex
  pub timed : (i : ℕ) → i < length S → (stop S i).timed ≡ (stop T i).timed
  pub arrival : (i : ℕ) → i < length S → (stop S i).arrival ≡ (stop T i).arrival
  pub departure : (i : ℕ) → i < length S → (stop S i).departure ≡ (stop T i).departure

-- and what is told besides
pub record Told (S T : List Stop) : Type 0 where
  pub line : (i : ℕ) → i < length S → (stop S i).line ≡ (stop T i).line
  pub trip_number : (i : ℕ) → i < length S → (stop S i).trip_number ≡ (stop T i).trip_number
