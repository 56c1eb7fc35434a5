-- The lines of a list by their places: which is the first that has an id. Assumes nothing.
use Rattle.std.specs.Prelude.{Bool, true, false, not, cond, ◌&&◌, List, [], ◌∷◌, ℕ, zero, suc, ◌+◌, ◌-◌, eqb, ltb, length, take, drop}
use Rattle.feed.specs.Lines.{empty}
use Rattle.feed.specs.Fields.{same}
use Rattle.lines.specs.Ends.{width, end_width}
use Rattle.lines.specs.Spans.{span_at, bytes_in}

-- the line that begins at a place, and where the next one begins
unfoldable pub stop_at : List ℕ → ℕ → ℕ
stop_at text at = at + width (drop at text)

unfoldable pub line_at : List ℕ → ℕ → List ℕ
line_at text at = take (stop_at text at - at) (drop at text)

unfoldable pub next_at : List ℕ → ℕ → ℕ
next_at text at = stop_at text at + end_width (drop (stop_at text at) text)

-- the bytes of a line's first field, without the quotes around it
unfoldable pub first_bytes : List ℕ → List ℕ
first_bytes l = bytes_in l (span_at l 0)

unfoldable pub names_at : List ℕ → ℕ → List ℕ → Bool
names_at text at y = not (empty (line_at text at)) && same y (first_bytes (line_at text at))

-- The place, counted from 1, of the first line from a place on that has an id of these bytes; 0 where none has it. The first number only bounds the reading.
unfoldable pub first_at : ℕ → List ℕ → ℕ → List ℕ → ℕ
first_at zero text at y = 0
first_at (suc f) text at y = cond (ltb at (length text)) (cond (names_at text at y) (suc at) (first_at f text (next_at text at) y)) 0

unfoldable pub found_from : List ℕ → ℕ → List ℕ → ℕ
found_from text at y = first_at (length text - at) text at y

-- a text begins with these bytes
unfoldable pub leads : List ℕ → List ℕ → Bool
leads [] t = true
leads (a ∷ y) [] = false
leads (a ∷ y) (b ∷ t) = eqb a b && leads y t

-- bytes above a comma: none of them ends a field or a line, or is a quote
unfoldable pub above : List ℕ → Bool
above [] = true
above (b ∷ y) = ltb 44 b && above y
