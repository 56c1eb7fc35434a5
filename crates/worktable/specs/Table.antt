-- What the buffer holds. Callers use `map_of`, `InOrder`, `Holds`, `Place` and `Gives` as they stand and never what is inside.
use Rattle.std.specs.Prelude.{◌≡◌, true, false, ◌≢◌, List, ℕ, Option, Some, None, ◌+◌, ◌<◌, ◌≤◌}
use Rattle.table_bytes.specs.Columns.{cols}
use Rattle.table_tree.specs.Words.{Slotted}
use Rattle.table_tree.specs.Chains.{At}
use Rattle.worktable.specs.Map.{Entry, absent, Map, spent, size, Foremost, Waits}
use Rattle.worktable.specs.Inside.{entry_in, lookup, Layout}
use Rattle.worktable.specs.declared.Table.{Table}
use Rattle.worktable.specs.declared.Nearest.{Nearest}
use Rattle.worktable.specs.declared.Passed.{Passed}

-- the map that the buffer b with the numbers t holds
unfoldable pub map_of : Table → List ℕ → Map
map_of t b u = entry_in (lookup t.capacity (cols t.slots b).w u)

-- `capacity` slots are laid out, of `room` that there may be
pub record Roomy (t : Table) : Type 0 where
  pub low : t.capacity ≤ t.room
  pub fits : t.room ≤ t.slots
  pub small : t.room ≤ 65536
  pub mask : 0 < t.room → t.mask < t.slots

-- the table is in order; a table without slots has no layout
pub record InOrder (t : Table) (b : List ℕ) : Type 0 where
  pub slotted : Slotted t.slots t.capacity b
  pub roomy : Roomy t
  pub layout : 0 < t.capacity → Layout t (cols t.slots b)
  pub counted : size (map_of t b) + t.free ≡ t.capacity

-- the table is in order and holds the map m
pub record Holds (t : Table) (b : List ℕ) (m : Map) : Type 0 where
  pub order : InOrder t b
  pub map : map_of t b ≡ m

-- s is the slot of u
pub record Place (t : Table) (b : List ℕ) (u s : ℕ) : Type 0 where
  pub slot : At t.capacity (cols t.slots b).w u s

-- from the numbers t and the bytes b to r and c: the map becomes m, and who stays keeps its slot
pub record Gives (t r : Table) (b c : List ℕ) (m : Map) : Type 0 where
  pub holds : Holds r c m
  pub room : r.room ≡ t.room
  pub stays : (v s : ℕ) → m v ≢ absent → Place t b v s → Place r c v s

-- the answer of `find`
unfoldable pub FoundIs : Table → List ℕ → ℕ → Option ℕ → Type 0
FoundIs t b u (Some s) = Place t b u s
FoundIs t b u None = map_of t b u ≡ absent

-- the answer of `pass` and `look`, where D is allowed and the vertex u has the entry e: a spent one is told with its slot
unfoldable pub PassedIs : ℕ → Table → List ℕ → ℕ → Entry → Passed → Type 0
PassedIs D t b u e Passed.Absent = e ≡ absent
PassedIs D t b u e Passed.Kept = (e ≢ absent) × (spent D e ≡ false)
PassedIs D t b u e (Passed.Spent s) = Place t b u s × (spent D e ≡ true)

-- the answer of `least`
unfoldable pub NearestIs : Table → List ℕ → Option Nearest → Type 0
NearestIs t b (Some x) = Place t b x.vertex x.slot × Foremost (map_of t b) x.vertex x.distance
NearestIs t b None = (u d : ℕ) → Waits (map_of t b) u d → ⊥
