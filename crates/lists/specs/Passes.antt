-- One pass over a list: every entry is judged, but a vertex that stands twice only in one half of the numbers. Assumes nothing.
use Rattle.std.specs.Prelude.{◌≡◌, Bool, true, false, not, ◌&&◌, List, ℕ, ◌/◌, ◌≤◌, ◌<◌, eqb, ltb}
use Rattle.journeys.specs.Lists.{allows, vertex_in, distance_at, named}

abbrev pub in_half : ℕ → ℕ → Bool
in_half half v = eqb (v / 32768) half

unfoldable pub half_ok : ℕ → ℕ → ℕ → List ℕ → ℕ → ℕ → Bool
half_ok size vertices most list half i =
    ltb (vertex_in size list i) vertices
    && allows most (distance_at size list i)
    && not (in_half half (vertex_in size list i) && named size list i (vertex_in size list i))

-- i is the first of n numbers that does not pass the test, or n
pub record First (test : ℕ → Bool) (n i : ℕ) : Type 0 where
  pub within : i ≤ n
  pub before : (k : ℕ) → k < i → test k ≡ true
  pub fails : i < n → test i ≡ false
