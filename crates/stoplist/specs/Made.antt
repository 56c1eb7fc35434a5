-- A stop of a trip as one record, made from its line. Assumes nothing.
use Rattle.std.specs.Prelude.{Bool, cond, ◌&&◌, List, [], ◌∷◌, ℕ, ◌+◌, ◌*◌, ◌<◌, ◌^◌}
use Rattle.journeys.specs.Counting.{one}
use Rattle.feed.specs.Lines.{empty}
use Rattle.feed.specs.Fields.{row_of, field}
use Rattle.feed.specs.Values.{value_of}
use Rattle.feed.specs.Ids.{number_of}
use Rattle.feed.specs.Stops.{Stop, or_other}
use Rattle.lines.specs.Spans.{bytes_in}
use Rattle.rows.specs.Placed.{field_span}
use Rattle.naming.specs.Named.{found_from}
use Rattle.known.specs.Counted.{id_known}
use Rattle.stops.specs.StopLines.{line_good}
use Rattle.halts.specs.Halts.{timed_in}
use Rattle.stoplist.specs.declared.Columns.{Columns}

-- the number of a record, from the fields of a stop
abbrev pub packed : Stop → ℕ
packed s = (s.vertex * 2 ^ 40 + one s.timed * 2 ^ 36 + s.arrival * 2 ^ 18 + s.departure) + 2 ^ 64 * ((s.sequence * 2 ^ 32 + s.line) + 2 ^ 64 * s.trip)

module _ (C : Columns) (stops trips : List ℕ) where
  -- The stop of a line. For the trip stands the place, counted from 1, of the first line of the trip list that has its id.
  unfoldable pub stop_made : ℕ → List ℕ → Stop
  stop_made i l =
      record {
        line = i;
        trip = found_from trips 0 (bytes_in l (field_span l C.trip));
        trip_number = 0;
        sequence = value_of (field (row_of l) C.sequence);
        vertex = number_of stops (field (row_of l) C.stop);
        timed = timed_in l C.arrival C.departure;
        arrival = or_other (field (row_of l) C.arrival) (field (row_of l) C.departure);
        departure = or_other (field (row_of l) C.departure) (field (row_of l) C.arrival);
      }

  unfoldable pub stops_made : ℕ → List (List ℕ) → List Stop
  stops_made i [] = []
  stops_made i (l ∷ ls) = cond (empty l) (stops_made (i + 1) ls) (stop_made i l ∷ stops_made (i + 1) ls)

  -- a line that 13 and 14 let pass
  unfoldable pub entry_good : List ℕ → Bool
  entry_good l = line_good C.count C.arrival C.departure C.sequence l && (id_known stops C.stop l && id_known trips C.trip l)

pub record Inside (C : Columns) : Type 0 where
  pub trip : C.trip < C.count
  pub arrival : C.arrival < C.count
  pub departure : C.departure < C.count
  pub stop : C.stop < C.count
  pub sequence : C.sequence < C.count
