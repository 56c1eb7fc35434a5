-- What is refused of the three texts before any id is looked up. Assumes nothing.
use Rattle.std.specs.Prelude.{Bool, true, ◌&&◌, ◌||◌, List, [], ◌∷◌, ℕ, eqb}
use Rattle.journeys.specs.Counting.{none}
use Rattle.journeys.specs.Refusals.{Refusal, or_else}
use Rattle.feed.specs.Ids.{ids_refusal}
use Rattle.feed.specs.Lines.{empty}
use Rattle.feed.specs.Fields.{Row}
use Rattle.feed.specs.Stops.{columns_once, header_refusal, lines_refusal}

unfoldable pub text_refusal : List ℕ → List ℕ → List ℕ → Refusal
text_refusal text stops trips = or_else (ids_refusal 65535 stops) (or_else (ids_refusal none trips) (or_else (header_refusal text) (lines_refusal text)))

-- neither list is refused, each column stands in line 1 once, and its quotes are in order
unfoldable pub opens : Row → List ℕ → List ℕ → Bool
opens H stops trips = eqb (ids_refusal 65535 stops).number 0 && (eqb (ids_refusal none trips).number 0 && (columns_once H && H.sound))

-- a test lets all lines pass that are not empty
unfoldable pub all_fit : (List ℕ → Bool) → List (List ℕ) → Bool
all_fit good [] = true
all_fit good (l ∷ ls) = (empty l || good l) && all_fit good ls
