-- The columns of line 1, found by their names. Assumes nothing.
use Rattle.std.specs.Prelude.{◌≡◌, List, ℕ, ◌+◌, ◌≤◌, length}
use Rattle.feed.specs.Fields.{row_of}
use Rattle.feed.specs.Stops.{trip_name, arrival_name, departure_name, stop_name, sequence_name, column}
use Rattle.stoplist.specs.declared.Columns.{Columns}

pub record Found (l : List ℕ) (C : Columns) : Type 0 where
  pub count : C.count ≡ length (row_of l).fields
  pub few : C.count ≤ length l + 1
  pub trip : C.trip ≡ column trip_name (row_of l)
  pub arrival : C.arrival ≡ column arrival_name (row_of l)
  pub departure : C.departure ≡ column departure_name (row_of l)
  pub stop : C.stop ≡ column stop_name (row_of l)
  pub sequence : C.sequence ≡ column sequence_name (row_of l)
