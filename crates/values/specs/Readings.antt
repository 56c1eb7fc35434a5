-- The code's answers for a field, from its definitions. Assumes nothing.
use Rattle.std.specs.Prelude.{Bool, true, cond, ◌&&◌, List, [], ◌∷◌, leb, ℕ, Option, Some, None}
use Rattle.feed.specs.Values.{digit, value_from, number, value_of, time, seconds_of}

unfoldable pub number_read : ℕ → List ℕ → Option ℕ
number_read most f = cond (number most f) (Some (value_of f)) None

-- the same behind digits that were read as v
unfoldable pub all_digits : List ℕ → Bool
all_digits [] = true
all_digits (b ∷ r) = digit b && all_digits r

unfoldable pub rest_read : ℕ → ℕ → List ℕ → Option ℕ
rest_read most v f = cond (all_digits f && leb (value_from v f) most) (Some (value_from v f)) None

unfoldable pub time_read : List ℕ → Option ℕ
time_read f = cond (time f) (Some (seconds_of f)) None
