-- What is known of a timetable when 1, 29, 12, 13 and 14 have passed. Assumes nothing.
use Rattle.std.specs.Prelude.{◌≡◌, List, [], map, ℕ, ◌≤◌, ◌<◌, length, get_or, drop}
use Rattle.feed.specs.Lines.{lines_of}
use Rattle.feed.specs.Stops.{Stop, below}
use Rattle.feed.specs.Answers.{Feed, Passed}
use Rattle.headings.specs.Found.{Found}
use Rattle.stoplist.specs.declared.Columns.{Columns}
use Rattle.stoplist.specs.Made.{packed, stops_made}

-- nothing is refused so far, C are the columns of line 1, and line 2 begins at `from`
pub record Read (F : Feed) (C : Columns) (from : ℕ) : Type 0 where
  pub passed : Passed F
  pub columns : Found (get_or (lines_of F.stop_times) 0 []) C
  pub within : from ≤ length F.stop_times
  pub second : lines_of (drop from F.stop_times) ≡ below F.stop_times

-- numbers of lines and places of trips have 32 bits
pub record Short (F : Feed) : Type 0 where
  pub text : length F.stop_times < 4294967294
  pub trips : length F.trips < 4294967296

-- the stops that the records are made from
unfoldable pub stops_read : Feed → Columns → ℕ → List Stop
stops_read F C from = stops_made C F.stops F.trips 2 (lines_of (drop from F.stop_times))

-- and these records, in the order of the lines
unfoldable pub records_read : Feed → Columns → ℕ → List ℕ
records_read F C from = map packed (stops_read F C from)
