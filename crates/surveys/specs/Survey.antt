-- The survey before a step where room is scarce: every held vertex is touched, and how the number of entries is going to change. Assumes nothing.
use Rattle.std.specs.Prelude.{◌≡◌, ◌⊎◌, not, cond, List, ℕ, ◌+◌, ◌-◌, ◌*◌, ◌/◌, ◌≤◌, ◌<◌, eqb, ltb}
use Rattle.journeys.specs.Counting.{one}
use Rattle.passing.specs.Row.{Row, passes}
use Rattle.directed.specs.Directed.{near_of, row_in, Passable, Near}
use Rattle.directed.specs.declared.Directed.{Directed}
use Rattle.worktable.specs.Map.{Entry, absent, known, Map, touched, spent, size_to, size}
use Rattle.worktable.specs.Table.{map_of, InOrder}
use Rattle.worktable.specs.declared.Table.{Table}
use Rattle.meeting.specs.Passing.{goes, along, meets, passed, left, leaving}
use Rattle.meeting.specs.Answer.{Leads}
use Rattle.blocks.specs.Block.{in_block, chance}

-- the tally after a record with the offer b, whose vertex has the entry e; c is its counter if it is new
unfoldable pub tallied : ℕ → ℕ → ℕ → ℕ → ℕ → Entry → ℕ
tallied D b due c tally absent = (tally + one (not (eqb (chance D b due c) 0))) - one (not (eqb c 0))
tallied D b due c tally (known d s n) = cond (spent D (touched b (known d s n))) (tally - 1) tally

module _ (R : Row) where
  -- all that are held are touched; nobody is dropped or met
  abbrev pub touches : ℕ → Entry → Entry
  touches j = touched (R.offer j)

  -- the vertices of one block only
  abbrev pub touches_in : ℕ → ℕ → Entry → Entry
  touches_in block j e = cond (in_block block (R.from j)) (touches j e) e

  abbrev pub meets_in : ℕ → ℕ → Entry → Entry
  meets_in block j e = cond (in_block block (R.from j)) (meets R j e) e

  -- the blocks below b are touched
  unfoldable pub touched_to : ℕ → ℕ → Map → Map
  touched_to n b m u = cond (ltb u (2048 * b)) (along R.from touches n u (m u)) (m u)

-- no record of the row is of a vertex of the blocks from first on and below next
abbrev pub Gap : List ℕ → List ℕ → List ℕ → Directed → ℕ → ℕ → Type 0
Gap w h l a first next = (j : ℕ) → j < passes a.arriving → (near_of w h l a j / 2048 < first) ⊎ (next ≤ near_of w h l a j / 2048)

module _ (v w h l : List ℕ) (a : Directed) where
  -- what the survey of a block starts from
  pub record Waiting (block : ℕ) (t : Table) (b : List ℕ) : Type 0 where
    pub order : InOrder t b
    pub sound : Passable w h l a
    pub near : Near v w h l a
    pub enough : (u : ℕ) → u / 2048 ≡ block → leaving (row_in v w h l a) u (passes a.arriving) ≤ left ((row_in v w h l a).departing u) (map_of t b u)
    pub few : (u : ℕ) → u / 2048 ≡ block → map_of t b u ≡ absent → leaving (row_in v w h l a) u (passes a.arriving) ≤ 65535

  -- from the bytes b to c, with a tally that starts at the number of records
  pub record Surveyed (block : ℕ) (t : Table) (b c : List ℕ) (tally : ℕ) : Type 0 where
    pub touched : Leads t t c (goes (near_of w h l a) (touches_in (row_in v w h l a) block) (passes a.arriving) (map_of t b))
    pub tallied : tally + size (map_of t b) ≡ passes a.arriving + size (goes (near_of w h l a) (meets_in (row_in v w h l a) block) (passes a.arriving) (map_of t b))

  -- all are touched; and of all blocks, those below `start` grow the most together
  pub record Started (t : Table) (b c : List ℕ) (start : ℕ) : Type 0 where
    pub touched : Leads t t c (goes (near_of w h l a) (touches (row_in v w h l a)) (passes a.arriving) (map_of t b))
    pub low : start ≤ 32
    pub best : (i : ℕ) → i ≤ 32
        → size_to (2048 * i) (passed (row_in v w h l a) (passes a.arriving) (map_of t b)) + size_to (2048 * start) (map_of t b)
        ≤ size_to (2048 * start) (passed (row_in v w h l a) (passes a.arriving) (map_of t b)) + size_to (2048 * i) (map_of t b)
