-- Hops that wait in a scratch, each with the vertex that it has to leave. Assumes nothing.
use Rattle.std.specs.Prelude.{◌≡◌, List, ℕ, ◌+◌, ◌*◌, ◌/◌, ◌%◌, ◌<◌, ◌≤◌, get_or, set, Option, Some, None}
use Rattle.records.specs.Columns.{records_in, from_at}
use Rattle.listing.specs.Places.{total, from_of}
use Rattle.listed.specs.Stretches.{Rising, Risen}

-- the hop in place j, and its vertex
abbrev pub number_in : List ℕ → ℕ → ℕ
number_in s j = get_or s (4 * j) 0 + 65536 * get_or s (4 * j + 1) 0

abbrev pub vertex_in : List ℕ → ℕ → ℕ
vertex_in s j = get_or s (4 * j + 2) 0

-- F tells where each hop leaves: those in the first k places leave their vertices
abbrev pub Leave : (ℕ → ℕ) → List ℕ → ℕ → Type 0
Leave F s k = (j : ℕ) → j < k → F (number_in s j) ≡ vertex_in s j

-- hop x in place k, for vertex v
unfoldable pub waited : List ℕ → ℕ → ℕ → ℕ → List ℕ
waited s k x v = set (set (set s (4 * k) (x % 65536)) (4 * k + 1) (x / 65536)) (4 * k + 2) v

-- From a scratch s with k hops to s' with k': if these leave, so did those, and the numbers from `at` up to `end` go on with the walks that rise up to `at`.
pub record Waits (size : ℕ) (w h : List ℕ) (v at end : ℕ) (list s : List ℕ) (k : ℕ) (s' : List ℕ) (k' : ℕ) : Type 0 where
  pub few : k' ≤ 512
  pub before : Leave (from_at size h) s' k' → Leave (from_at size h) s k
  pub risen : Leave (from_at size h) s' k' → (first : ℕ) → Rising (from_of size w h) (total size w h) v first at (records_in 16 w) list → Risen (from_of size w h) (total size w h) v first end list

-- nothing is said where a number is wrong
unfoldable pub WaitingIs : ℕ → List ℕ → List ℕ → ℕ → ℕ → ℕ → List ℕ → List ℕ → ℕ → List ℕ → Option ℕ → Type 0
WaitingIs size w h v at end list s k s' (Some k') = Waits size w h v at end list s k s' k'
WaitingIs size w h v at end list s k s' None = Unit
