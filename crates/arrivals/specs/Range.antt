-- The end of a step for a range of blocks. Assumes nothing.
use Rattle.std.specs.Prelude.{◌≡◌, cond, ◌&&◌, List, ℕ, Option, Some, None, ◌*◌, ◌<◌, ◌≤◌, leb, ltb}
use Rattle.passing.specs.Row.{Row, passes}
use Rattle.directed.specs.Directed.{row_in, Passable, Near}
use Rattle.directed.specs.declared.Directed.{Directed}
use Rattle.worktable.specs.Map.{absent, Map, size}
use Rattle.worktable.specs.Table.{map_of, InOrder}
use Rattle.worktable.specs.declared.Table.{Table}
use Rattle.meeting.specs.Passing.{leaving}
use Rattle.meeting.specs.Answer.{Leads}
use Rattle.blocks.specs.Block.{ended}

-- the step is over for the blocks from lo on and below hi
unfoldable pub over_to : Row → ℕ → ℕ → ℕ → Map → Map
over_to R n lo hi m u = cond (leb (2048 * lo) u && ltb u (2048 * hi)) (ended R n u (m u)) (m u)

-- the table holds that; or the blocks up to some one have no room
unfoldable pub RangeIs : Row → ℕ → ℕ → ℕ → Table → List ℕ → Map → Option Table → Type 0
RangeIs R n lo hi t c m (Some r) = Leads t r c (over_to R n lo hi m)
RangeIs R n lo hi t c m None = (i : ℕ) × (lo ≤ i) × (i ≤ hi) × (t.room < size (over_to R n lo i m))

module _ (v w h l : List ℕ) (a : Directed) (lo hi : ℕ) (t : Table) (b : List ℕ) where
  -- what the ends of these blocks start from: a new vertex of theirs has no more records in the row than it has in all, nor than two bytes count
  pub record RangeTouched : Type 0 where
    pub order : InOrder t b
    pub sound : Passable w h l a
    pub near : Near v w h l a
    pub fresh : (u : ℕ) → 2048 * lo ≤ u → u < 2048 * hi → map_of t b u ≡ absent
        → (leaving (row_in v w h l a) u (passes a.arriving) ≤ (row_in v w h l a).departing u) × (leaving (row_in v w h l a) u (passes a.arriving) ≤ 65535)

  abbrev pub RangeOver : List ℕ → Option Table → Type 0
  RangeOver c r = RangeIs (row_in v w h l a) (passes a.arriving) lo hi t c (map_of t b) r
