-- A line of a timetable by the numbers of its columns. Assumes nothing.
use Rattle.std.specs.Prelude.{Bool, ◌&&◌, List, ℕ, eqb, length}
use Rattle.journeys.specs.Counting.{none}
use Rattle.feed.specs.Fields.{Row, row_of, field}
use Rattle.journeys.specs.Refusals.{Refusal, unless, or_else}
use Rattle.feed.specs.Lines.{first_bad_line}
use Rattle.feed.specs.Values.{number, time_or_blank}
use Rattle.feed.specs.Stops.{columns_once, stop_line}

-- so many fields, quotes in order, times or blanks at the columns of the arrival and of the departure, and a sequence of 32 bits
unfoldable pub line_good : ℕ → ℕ → ℕ → ℕ → List ℕ → Bool
line_good count arrival departure sequence l =
    (row_of l).sound
    && eqb (length (row_of l).fields) count
    && time_or_blank (field (row_of l) arrival)
    && time_or_blank (field (row_of l) departure)
    && number none (field (row_of l) sequence)

-- refusals 12 and 13, of line 1 and of the lines behind it
unfoldable pub fault_below : Row → List (List ℕ) → Refusal
fault_below H ls = or_else (unless (columns_once H) 12 1) (or_else (unless H.sound 13 1) (first_bad_line 13 (stop_line H) 2 ls))
