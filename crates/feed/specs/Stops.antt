-- stop_times: columns by their names in line 1, then a stop of a trip on each line; refusals 12, 13 and 14. Assumes nothing.
use Rattle.std.specs.Prelude.{Bool, true, not, cond, ◌&&◌, ◌||◌, List, [], ◌∷◌, ℕ, ◌+◌, eqb, length, get_or, drop}
use Rattle.journeys.specs.Counting.{none, one}
use Rattle.journeys.specs.Refusals.{Refusal, unless, or_else}
use Rattle.feed.specs.Lines.{bytes, empty, lines_of, first_bad_line}
use Rattle.feed.specs.Fields.{Row, row_of, field, same}
use Rattle.feed.specs.Values.{number, value_of, time_or_blank, seconds_of}
use Rattle.feed.specs.Ids.{known, line_of, number_of}

-- ---- the names of the five columns
abbrev pub trip_name : List ℕ
trip_name = bytes "trip_id"

abbrev pub arrival_name : List ℕ
arrival_name = bytes "arrival_time"

abbrev pub departure_name : List ℕ
departure_name = bytes "departure_time"

abbrev pub stop_name : List ℕ
stop_name = bytes "stop_id"

abbrev pub sequence_name : List ℕ
sequence_name = bytes "stop_sequence"

-- how many of these fields have a name, and the number of the first that has it, counted on from k
unfoldable pub times : List ℕ → List (List ℕ) → ℕ
times name [] = 0
times name (f ∷ fs) = one (same name f) + times name fs

unfoldable pub column_from : List ℕ → ℕ → List (List ℕ) → ℕ
column_from name k [] = k
column_from name k (f ∷ fs) = cond (same name f) k (column_from name (k + 1) fs)

unfoldable pub column : List ℕ → Row → ℕ
column name t = column_from name 0 t.fields

-- ---- line 1
unfoldable pub header : List ℕ → Row
header text = row_of (get_or (lines_of text) 0 [])

-- 12: each of the five names stands there once; what stands behind a stray or open quote is not looked at
unfoldable pub columns_once : Row → Bool
columns_once t =
    eqb (times trip_name t.fields) 1
    && eqb (times arrival_name t.fields) 1
    && eqb (times departure_name t.fields) 1
    && eqb (times stop_name t.fields) 1
    && eqb (times sequence_name t.fields) 1

unfoldable pub header_refusal : List ℕ → Refusal
header_refusal text = unless (columns_once (header text)) 12 1

-- ---- the other lines, below a line 1 that is read as H
module _ (H : Row) where
  unfoldable pub in_column : List ℕ → List ℕ → List ℕ
  in_column name l = field (row_of l) (column name H)

  -- 13: as many fields as line 1, quotes in order, times, and a sequence of 32 bits
  unfoldable pub stop_line : List ℕ → Bool
  stop_line l =
      (row_of l).sound
      && eqb (length (row_of l).fields) (length H.fields)
      && time_or_blank (in_column arrival_name l)
      && time_or_blank (in_column departure_name l)
      && number none (in_column sequence_name l)

  -- 14: both ids are listed
  unfoldable pub ids_known : List ℕ → List ℕ → List ℕ → Bool
  ids_known stops trips l = known stops (in_column stop_name l) && known trips (in_column trip_name l)

-- what stands behind line 1
unfoldable pub below : List ℕ → List (List ℕ)
below text = drop 1 (lines_of text)

unfoldable pub lines_refusal : List ℕ → Refusal
lines_refusal text = or_else (unless (header text).sound 13 1) (first_bad_line 13 (stop_line (header text)) 2 (below text))

unfoldable pub known_refusal : List ℕ → List ℕ → List ℕ → Refusal
known_refusal text stops trips = first_bad_line 14 (ids_known (header text) stops trips) 2 (below text)

-- ---- the stops
-- A trip is known by its id, whose first line in the trip list stands for it: several ids may share one number. One given time stands for both.
pub record Stop : Type 0 where
  pub line : ℕ
  pub trip : ℕ
  pub trip_number : ℕ
  pub sequence : ℕ
  pub vertex : ℕ
  pub timed : Bool
  pub arrival : ℕ
  pub departure : ℕ

-- the seconds of a field, or of the other where it is blank
unfoldable pub or_other : List ℕ → List ℕ → ℕ
or_other f other = cond (empty f) (seconds_of other) (seconds_of f)

module _ (H : Row) (stops trips : List ℕ) where
  unfoldable pub stop_of : ℕ → List ℕ → Stop
  stop_of i l =
      record {
        line = i;
        trip = line_of trips (in_column H trip_name l);
        trip_number = number_of trips (in_column H trip_name l);
        sequence = value_of (in_column H sequence_name l);
        vertex = number_of stops (in_column H stop_name l);
        timed = not (empty (in_column H arrival_name l)) || not (empty (in_column H departure_name l));
        arrival = or_other (in_column H arrival_name l) (in_column H departure_name l);
        departure = or_other (in_column H departure_name l) (in_column H arrival_name l);
      }

  -- one for each line that is not empty, the first of these lines being line i
  unfoldable pub stops_from : ℕ → List (List ℕ) → List Stop
  stops_from i [] = []
  stops_from i (l ∷ ls) = cond (empty l) (stops_from (i + 1) ls) (stop_of i l ∷ stops_from (i + 1) ls)

unfoldable pub stops_of : List ℕ → List ℕ → List ℕ → List Stop
stops_of text stops trips = stops_from (header text) stops trips 2 (below text)
