-- A field of a line by its number: where it begins, and its bytes. Assumes nothing.
use Rattle.std.specs.Prelude.{cond, ◌&&◌, List, ℕ, eqb, length, Option, Some, None}
use Rattle.feed.specs.Fields.{row_of}
use Rattle.lines.specs.declared.Stand.{Stand}
use Rattle.lines.specs.declared.Stand.TheVariants.{Begins, Ended, Broken}
use Rattle.lines.specs.declared.Span.{Span}
use Rattle.lines.specs.Passing.{stand}
use Rattle.lines.specs.Spans.{span_at}
use Rattle.rows.specs.declared.Places.{Places}

abbrev pub place_in : Stand → ℕ
place_in (Begins at) = at
place_in (Ended over) = 0
place_in (Broken over) = 0

-- 0 where the line has not so many fields
unfoldable pub place_of : List ℕ → ℕ → ℕ
place_of s k = place_in (stand s k 0)

unfoldable pub field_span : List ℕ → ℕ → Span
field_span s k = span_at s (place_of s k)

-- where five columns begin, in a line of n fields with its quotes in order
unfoldable pub places_of : ℕ → ℕ → ℕ → ℕ → ℕ → ℕ → List ℕ → Option Places
places_of n trip arrival departure stop sequence s =
    cond ((row_of s).sound && eqb (length (row_of s).fields) n)
    (Some (record { trip = place_of s trip; arrival = place_of s arrival; departure = place_of s departure; stop = place_of s stop; sequence = place_of s sequence }))
    None
