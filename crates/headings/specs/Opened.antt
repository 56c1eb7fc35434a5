-- Line 1 of a timetable has given its columns, and its other lines begin at a place. Assumes nothing.
use Rattle.std.specs.Prelude.{◌≡◌, List, [], ℕ, ◌≤◌, length, get_or, drop}
use Rattle.feed.specs.Lines.{lines_of}
use Rattle.feed.specs.Stops.{below}
use Rattle.stoplist.specs.declared.Columns.{Columns}
use Rattle.stoplist.specs.Made.{Inside}
use Rattle.headings.specs.Found.{Found}

pub record Opened (text : List ℕ) (from : ℕ) (C : Columns) : Type 0 where
  pub within : from ≤ length text
  pub rest : lines_of (drop from text) ≡ below text
  pub found : Found (get_or (lines_of text) 0 []) C
  pub inside : Inside C
