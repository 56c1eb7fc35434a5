-- The number of a line of a list. Assumes nothing.
use Rattle.std.specs.Prelude.{List, ℕ}
use Rattle.feed.specs.Fields.{row_of, field}
use Rattle.feed.specs.Values.{value_of}
use Rattle.naming.specs.Named.{line_at}

-- the number in the line of a list that begins at a place
unfoldable pub number_at : List ℕ → ℕ → ℕ
number_at list place = value_of (field (row_of (line_at list place)) 1)
