-- A list of lines "id,number": refusal 29, and which number an id has. Assumes nothing.
use Rattle.std.specs.Prelude.{Bool, not, cond, ◌&&◌, List, [], ◌∷◌, ℕ, ◌+◌, eqb, length}
use Rattle.journeys.specs.Refusals.{Refusal}
use Rattle.feed.specs.Lines.{empty, lines_of, first_bad_line}
use Rattle.feed.specs.Fields.{row_of, field, same}
use Rattle.feed.specs.Values.{number, value_of}

-- two fields, the second a number up to a greatest
unfoldable pub list_line : ℕ → List ℕ → Bool
list_line most l = (row_of l).sound && eqb (length (row_of l).fields) 2 && number most (field (row_of l) 1)

unfoldable pub ids_refusal : ℕ → List ℕ → Refusal
ids_refusal most text = first_bad_line 29 (list_line most) 1 (lines_of text)

-- a line that has this id
unfoldable pub names : List ℕ → List ℕ → Bool
names id l = not (empty l) && same id (field (row_of l) 0)

-- the first line with this id, the first of these being line i; 0 if there is none
unfoldable pub first_naming : List ℕ → ℕ → List (List ℕ) → ℕ
first_naming id i [] = 0
first_naming id i (l ∷ ls) = cond (names id l) i (first_naming id (i + 1) ls)

-- and the number there
unfoldable pub number_in : List ℕ → List (List ℕ) → ℕ
number_in id [] = 0
number_in id (l ∷ ls) = cond (names id l) (value_of (field (row_of l) 1)) (number_in id ls)

unfoldable pub line_of : List ℕ → List ℕ → ℕ
line_of text id = first_naming id 1 (lines_of text)

unfoldable pub number_of : List ℕ → List ℕ → ℕ
number_of text id = number_in id (lines_of text)

unfoldable pub known : List ℕ → List ℕ → Bool
known text id = not (eqb (line_of text id) 0)
