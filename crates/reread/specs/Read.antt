-- The stops of a timetable as they are read from their lines. Assumes nothing.
use Rattle.std.specs.Prelude.{◌≡◌, cond, List, [], ◌∷◌, ℕ, suc, ◌+◌, ◌≤◌, length, drop}
use Rattle.journeys.specs.Counting.{none}
use Rattle.journeys.specs.Refusals.{fine}
use Rattle.feed.specs.Lines.{empty, lines_of, first_bad_line}
use Rattle.feed.specs.Fields.{row_of, field}
use Rattle.feed.specs.Values.{value_of}
use Rattle.feed.specs.Ids.{ids_refusal, number_of}
use Rattle.feed.specs.Stops.{Stop, or_other}
use Rattle.lines.specs.Spans.{bytes_in}
use Rattle.rows.specs.Placed.{field_span}
use Rattle.naming.specs.Named.{found_from}
use Rattle.halts.specs.Halts.{timed_in}
use Rattle.stoplist.specs.declared.Columns.{Columns}
use Rattle.stoplist.specs.Made.{entry_good, Inside}
use Rattle.reread.specs.declared.Halt.{Halt}

abbrev pub stop_is : Halt → Stop
stop_is h =
    record {
      line = h.line;
      trip = h.trip;
      trip_number = h.number;
      sequence = h.sequence;
      vertex = h.vertex;
      timed = h.timed;
      arrival = h.arrival;
      departure = h.departure;
    }

module _ (C : Columns) (stops trips : List ℕ) where
  -- The stop of a line. For the trip stands the place, counted from 1, of the first line of the trip list that has its id.
  unfoldable pub stop_read : ℕ → List ℕ → Stop
  stop_read i l =
      record {
        line = i;
        trip = found_from trips 0 (bytes_in l (field_span l C.trip));
        trip_number = number_of trips (field (row_of l) C.trip);
        sequence = value_of (field (row_of l) C.sequence);
        vertex = number_of stops (field (row_of l) C.stop);
        timed = timed_in l C.arrival C.departure;
        arrival = or_other (field (row_of l) C.arrival) (field (row_of l) C.departure);
        departure = or_other (field (row_of l) C.departure) (field (row_of l) C.arrival);
      }

  unfoldable pub stops_read : ℕ → List (List ℕ) → List Stop
  stops_read i [] = []
  stops_read i (l ∷ ls) = cond (empty l) (stops_read (i + 1) ls) (stop_read i l ∷ stops_read (i + 1) ls)

  -- those of the lines from a place on, where line 2 begins
  abbrev pub stops_here : List ℕ → ℕ → List Stop
  stops_here text from = stops_read 2 (lines_of (drop from text))

-- how many lines are not empty
unfoldable pub many_lines : List (List ℕ) → ℕ
many_lines [] = 0
many_lines (l ∷ ls) = cond (empty l) (many_lines ls) (suc (many_lines ls))

-- the lists are good
pub record Ready (C : Columns) (stops trips : List ℕ) : Type 0 where
  pub inside : Inside C
  pub stops_good : ids_refusal 65535 stops ≡ fine
  pub trips_good : ids_refusal none trips ≡ fine

-- line 2 begins inside the text, and 13 and 14 let its lines pass
pub record Lined (C : Columns) (stops trips text : List ℕ) (from : ℕ) : Type 0 where
  pub within : from ≤ length text
  pub good : first_bad_line 13 (entry_good C stops trips) 2 (lines_of (drop from text)) ≡ fine
