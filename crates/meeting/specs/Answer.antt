-- What a step answers: the table afterwards, or that the step has no room in it. Assumes nothing.
use Rattle.std.specs.Prelude.{◌≡◌, List, ℕ, Option, Some, None, ◌<◌, ◌≤◌}
use Rattle.passing.specs.Row.{passes}
use Rattle.directed.specs.Directed.{row_in}
use Rattle.directed.specs.declared.Directed.{Directed}
use Rattle.worktable.specs.Map.{Map, size}
use Rattle.worktable.specs.Table.{map_of, Holds}
use Rattle.worktable.specs.declared.Table.{Table}
use Rattle.meeting.specs.Passing.{passed}

-- from the table t to the table r with the bytes c: as many slots, and the map is m
pub record Leads (t r : Table) (c : List ℕ) (m : Map) : Type 0 where
  pub holds : Holds r c m
  pub room : r.room ≡ t.room

-- the table holds m and m has room in it; or m has none
unfoldable pub ArrivedIs : Table → List ℕ → Map → Option Table → Type 0
ArrivedIs t c m (Some r) = Leads t r c m × (size m ≤ t.room)
ArrivedIs t c m None = t.room < size m

module _ (v w h l : List ℕ) (a : Directed) (t : Table) (b c : List ℕ) where
  -- every record of the row has been passed: from the bytes b to c
  abbrev pub AllMet : Table → Type 0
  AllMet r = Leads t r c (passed (row_in v w h l a) (passes a.arriving) (map_of t b))

  -- the same where there may be no room for it
  abbrev pub Passed : Option Table → Type 0
  Passed r = ArrivedIs t c (passed (row_in v w h l a) (passes a.arriving) (map_of t b)) r
