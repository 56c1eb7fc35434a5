-- Numbers of a list that stand in their places, vertex by vertex. Assumes nothing.
use Rattle.std.specs.Prelude.{◌≡◌, ◌≢◌, List, ℕ, ◌+◌, ◌*◌, ◌/◌, ◌<◌, ◌≤◌, length}
use Rattle.journeys.specs.Bytes.{be32}
use Rattle.starts.specs.Sums.{departing_of}
use Rattle.listing.specs.Places.{total, from_of, rank, below, same}

-- a list with one number for each record of these tables, and a place up to which it is looked at
pub record Fits (size : ℕ) (w h list : List ℕ) (end : ℕ) : Type 0 where
  pub hop_fits : 4 ≤ size
  pub few : total size w h ≤ 524288
  pub long : length list ≡ 4 * total size w h
  pub within : end ≤ total size w h

-- F tells where each of n records leaves: those that leave v stand from `first` up to `end`
pub record Stretch (F : ℕ → ℕ) (n v first end : ℕ) : Type 0 where
  pub begins : first ≡ below F v n
  pub ends : end ≡ first + same F v n

-- those that leave a vertex before v stand in their places
pub record Found (F : ℕ → ℕ) (n v : ℕ) (list : List ℕ) : Type 0 where
  pub right : (x : ℕ) → x < n → F x < v → be32 list (4 * rank F n x) ≡ x

-- of those that leave v, which stand from `first` up to `end`, the ones before the place r do, and the one at r does not
pub record Upto (F : ℕ → ℕ) (n v first end r : ℕ) (list : List ℕ) : Type 0 where
  pub least : first ≤ r
  pub most : r ≤ end
  pub right : (x : ℕ) → x < n → F x ≡ v → rank F n x < r → be32 list (4 * rank F n x) ≡ x
  pub wrong : r < end → (x : ℕ) × (x < n) × (F x ≡ v) × (rank F n x ≡ r) × (be32 list (4 * r) ≢ x)

-- the numbers from `first` up to i are records that leave v and rise; all are below `low`
pub record Rising (F : ℕ → ℕ) (n v first i low : ℕ) (list : List ℕ) : Type 0 where
  pub few : i ≤ first + same F v low
  pub within : low ≤ n
  pub each : (j : ℕ) → first ≤ j → j < i
      → (be32 list (4 * j) < n) × (F (be32 list (4 * j)) ≡ v) × (j ≤ first + same F v (be32 list (4 * j))) × (same F v (be32 list (4 * j)) + i ≤ same F v low + j)

-- so for all of them up to `end`
pub record Risen (F : ℕ → ℕ) (n v first end : ℕ) (list : List ℕ) : Type 0 where
  pub low : ℕ
  pub rising : Rising F n v first end low list

-- the vertex records say how many records leave, and every record that leaves a vertex stands in its place
pub record Sure (size : ℕ) (v w h list : List ℕ) : Type 0 where
  pub counts : (u : ℕ) → u < length v / 12 → departing_of v u ≡ same (from_of size w h) u (total size w h)
  pub found : Found (from_of size w h) (total size w h) (length v / 12) list
