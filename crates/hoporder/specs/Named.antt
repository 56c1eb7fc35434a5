-- The stops that records stand for, told as the definitions tell them.
use Rattle.std.specs.Prelude.{List, [], map, ℕ, ◌<◌, length, get_or, drop}
use Rattle.journeys.specs.Counting.{none}
use Rattle.feed.specs.Lines.{lines_of}
use Rattle.feed.specs.Fields.{row_of, field}
use Rattle.feed.specs.Values.{value_of}
use Rattle.feed.specs.Stops.{Stop}
use Rattle.table_bytes.specs.Columns.{at}
use Rattle.succession.specs.Entries.{stop_in}

-- the line of a list that begins at a place, and the number on it
unfoldable pub line_from : List ℕ → ℕ → List ℕ
line_from text place = get_or (lines_of (drop place text)) 0 []

unfoldable pub number_at : List ℕ → ℕ → ℕ
number_at list place = value_of (field (row_of (line_from list place)) 1)

-- how a line and a trip are told, from what a record has for them
module _ (number trip_of : ℕ → ℕ) where
  abbrev pub stop_named : ℕ → Stop
  stop_named x =
      record {
        line = number (stop_in x).line;
        trip = (stop_in x).trip;
        trip_number = trip_of (stop_in x).trip;
        sequence = (stop_in x).sequence;
        vertex = (stop_in x).vertex;
        timed = (stop_in x).timed;
        arrival = (stop_in x).arrival;
        departure = (stop_in x).departure;
      }

  abbrev pub stops_named : List ℕ → List Stop
  stops_named W = map stop_named W

-- the records of stops in the order of their lines
pub record Rising (W : List ℕ) : Type 0 where
  pub rises : (i j : ℕ) → i < j → j < length W → (stop_in (at W i)).line < (stop_in (at W j)).line
  pub within : (i : ℕ) → i < length W → (stop_in (at W i)).line < none
