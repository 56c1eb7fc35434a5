-- The time in a field, and whether a line has one. Assumes nothing.
use Rattle.std.specs.Prelude.{Bool, not, cond, ◌||◌, List, ℕ, Option, Some, None}
use Rattle.feed.specs.Lines.{empty}
use Rattle.feed.specs.Fields.{row_of, field}
use Rattle.feed.specs.Values.{seconds_of}

-- one of the two times is given
unfoldable pub timed_in : List ℕ → ℕ → ℕ → Bool
timed_in l arrival departure = not (empty (field (row_of l) arrival)) || not (empty (field (row_of l) departure))

-- the seconds of a field that is a time or blank
unfoldable pub moment : List ℕ → Option ℕ
moment f = cond (empty f) None (Some (seconds_of f))
