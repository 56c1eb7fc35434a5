-- Where the records of a vertex stand in the right list. Assumes nothing.
use Rattle.std.specs.Prelude.{◌≡◌, List, ℕ, ◌-◌, ◌*◌, ◌/◌, ◌<◌, ◌≤◌, length}
use Rattle.journeys.specs.Bytes.{be32}
use Rattle.records.specs.Columns.{records_in}
use Rattle.listing.specs.Places.{total, from_of, below, same, rank}
use Rattle.stretches.specs.declared.Stretch.{Stretch}

-- F tells where each of n records leaves: every record stands in its place
pub record Right (F : ℕ → ℕ) (n : ℕ) (list : List ℕ) : Type 0 where
  pub stands : (x : ℕ) → x < n → be32 list (4 * rank F n x) ≡ x

-- place i of the list has a number below the one before it, or there is no such place
abbrev pub Falls : List ℕ → ℕ → Type 0
Falls list i = i < length list / 4 → (0 < i) × (be32 list (4 * i) < be32 list (4 * (i - 1)))

-- m divides the numbers from `first` up to `end`: those below `ways`, then the others
pub record Parted (list : List ℕ) (ways first end m : ℕ) : Type 0 where
  pub begins : first ≤ m
  pub ends : m ≤ end
  pub walks : (i : ℕ) → first ≤ i → i < m → be32 list (4 * i) < ways
  pub hops : (i : ℕ) → m ≤ i → i < end → ways ≤ be32 list (4 * i)

-- behind the records of the vertices before v
abbrev pub stretch_of : ℕ → List ℕ → List ℕ → ℕ → Stretch
stretch_of size w h v = record { first = below (from_of size w h) v (total size w h); many = same (from_of size w h) v (total size w h) }

-- of these its walks, which stand first
abbrev pub walks_of : ℕ → List ℕ → List ℕ → ℕ → Stretch
walks_of size w h v = record { first = below (from_of size w h) v (total size w h); many = same (from_of size w h) v (records_in 16 w) }
