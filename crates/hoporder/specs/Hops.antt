-- The records of hops in the order of the definitions, and the bytes of a hop from its record.
use Rattle.std.specs.Prelude.{◌≡◌, Bool, cond, not, ◌&&◌, List, [], ◌∷◌, ◌++◌, ℕ, ◌/◌, ◌%◌, ◌<◌, ◌^◌, eqb, length}
use Rattle.journeys.specs.Counting.{joined, In}
use Rattle.journeys.specs.Bytes.{word}
use Rattle.table_bytes.specs.Columns.{at}
use Rattle.feed.specs.Stops.{Stop}
use Rattle.feed.specs.Trips.{stop, next, beyond}
use Rattle.succession.specs.Entries.{stop_in}
use Rattle.connections.specs.Gathered.{hop_entry}

-- each number of a list stands in this relation to those behind it
abbrev pub Pairwise : (ℕ → ℕ → Type 0) → List ℕ → Type 0
Pairwise R [] = Unit
Pairwise R (x ∷ l) = ((y : ℕ) → In y l → R x y) × Pairwise R l

module _ (S : List Stop) where
  unfoldable pub entry_to : ℕ → ℕ → ℕ → List ℕ
  entry_to v p i = cond (eqb (stop S i).vertex v && not (eqb (stop S p).vertex v) && next S p i) (hop_entry S p i ∷ []) []

  unfoldable pub entries_to : ℕ → List ℕ
  entries_to v = joined (λ p. joined (entry_to v p) (length S)) (length S)

  unfoldable pub entries_of : List ℕ
  entries_of = joined entries_to (beyond S)

-- a trip's place has 32 bits
abbrev pub Placed : List ℕ → Type 0
Placed W = (i : ℕ) → i < length W → (stop_in (at W i)).trip < 2 ^ 32

-- "from", "to", departure, arrival and the number of the trip
unfoldable pub hop_out : (ℕ → ℕ) → ℕ → List ℕ
hop_out trip_of x =
    word (x % 2 ^ 64 / 2 ^ 36)
    ++ word (x / 2 ^ 64 / 2 ^ 64)
    ++ word (x % 2 ^ 64 / 2 ^ 18 % 2 ^ 18)
    ++ word (x % 2 ^ 64 % 2 ^ 18)
    ++ word (trip_of (x / 2 ^ 64 % 2 ^ 64 % 2 ^ 32))
