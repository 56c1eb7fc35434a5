-- One block of 2,048 vertices where room is scarce: who of its new vertices stays, and the end of the step for it. Assumes nothing.
use Rattle.std.specs.Prelude.{◌≡◌, Bool, true, not, cond, ◌&&◌, List, ℕ, zero, suc, ◌-◌, ◌/◌, ◌%◌, ◌≤◌, ◌<◌, min, eqb, ltb, get_or}
use Rattle.journeys.specs.Counting.{one}
use Rattle.passing.specs.Row.{Row, passes}
use Rattle.directed.specs.Directed.{near_of, row_in, Passable, Near}
use Rattle.directed.specs.declared.Directed.{Directed}
use Rattle.worktable.specs.Map as map
use Rattle.worktable.specs.Map.{Entry, absent, known, Map, swept}
use Rattle.worktable.specs.Table.{map_of, InOrder}
use Rattle.worktable.specs.declared.Table.{Table}
use Rattle.meeting.specs.Passing.{missing, meets, goes, along, leaving}

abbrev pub in_block : ℕ → ℕ → Bool
in_block block u = eqb (u / 2048) block

-- a counter that is not 0 says that its vertex stays
unfoldable pub stays_in : List ℕ → ℕ → Bool
stays_in s k = not (eqb (get_or s k 0) 0)

-- who is of the block and stays
abbrev pub stayers : List ℕ → ℕ → ℕ → Bool
stayers s block u = in_block block u && stays_in s (u % 2048)

-- the counter c of a new vertex after a record with the offer b: it starts at what is due to it, and each offer above D takes one off. Two bytes hold 65,535: that limit is
-- felt after the first record only, so that who has more is never told to be hopeless by the records of one row.
unfoldable pub chance : ℕ → ℕ → ℕ → ℕ → ℕ
chance D b due c = cond (eqb c 0) (min (due - one (ltb D b)) 65535) (c - one (ltb D b))

-- those of a block that are spent are dropped
abbrev pub sweeps : ℕ → (ℕ → ℕ) → ℕ → ℕ → Entry → Entry
sweeps D from block j e = cond (in_block block (from j)) (swept D e) e

module _ (R : Row) where
  -- counter k of the block when the first j records have been noted; m tells who is new
  unfoldable pub noting : ℕ → Map → ℕ → ℕ → ℕ
  noting block m zero k = 0
  noting block m (suc j) k =
      cond (in_block block (R.from j) && (missing (m (R.from j)) && eqb (R.from j % 2048) k))
      (chance R.allowed (R.offer j) (R.departing (R.from j)) (noting block m j k)) (noting block m j k)

  -- those of whom `on` says so are met
  abbrev pub adds_if : (ℕ → Bool) → ℕ → Entry → Entry
  adds_if on j e = cond (on (R.from j)) (meets R j e) e

  -- those of a block that stay
  abbrev pub adds : List ℕ → ℕ → ℕ → Entry → Entry
  adds s block = adds_if (stayers s block)

  -- the entry of u, which has been touched, when the step is over
  unfoldable pub ended : ℕ → ℕ → Entry → Entry
  ended n u absent = along R.from (meets R) n u absent
  ended n u (known d s r) = along R.from (λ j. swept R.allowed) n u (known d s r)

  -- the step is over for one block
  unfoldable pub over : ℕ → ℕ → Map → Map
  over n block m u = cond (in_block block u) (ended n u (m u)) (m u)

  -- a new vertex of the block has no more records in the row than it has in all, nor than two bytes count
  abbrev pub Fresh : ℕ → ℕ → Map → Type 0
  Fresh n block m = (u : ℕ) → u / 2048 ≡ block → m u ≡ absent → (leaving R u n ≤ R.departing u) × (leaving R u n ≤ 65535)

  -- of whom `on` says so is not held, has no more records in the row than it has in all, and has an entry from its first record on
  abbrev pub Newcomers : ℕ → (ℕ → Bool) → Map → Type 0
  Newcomers n on m = (u : ℕ) → on u ≡ true
      → (m u ≡ absent) × (leaving R u n ≤ R.departing u) × ((j : ℕ) → j < n → R.from j ≡ u → map.one (along R.from (meets R) (suc j) u absent) ≡ 1)

  -- so is who stays by the counters s
  abbrev pub News : ℕ → ℕ → List ℕ → Map → Type 0
  News n block s m = Newcomers n (stayers s block) m

-- ---- what the contracts say of a row
module _ (w h l : List ℕ) (a : Directed) (block : ℕ) where
  abbrev pub swept_block : Map → Map
  swept_block m = goes (near_of w h l a) (sweeps a.arriving.allowed.0 (near_of w h l a) block) (passes a.arriving) m

module _ (v w h l : List ℕ) (a : Directed) (block : ℕ) where
  -- the counters s are those of the block
  abbrev pub Noted : Map → List ℕ → Type 0
  Noted m s = (k : ℕ) → k < 2048 → get_or s k 0 ≡ noting (row_in v w h l a) block m (passes a.arriving) k

  abbrev pub added_block : List ℕ → Map → Map
  added_block s m = goes (near_of w h l a) (adds (row_in v w h l a) s block) (passes a.arriving) m

  -- the map when the step is over for the block
  abbrev pub block_over : Map → Map
  block_over m = over (row_in v w h l a) (passes a.arriving) block m

  -- what the end of a block starts from
  pub record Touched (t : Table) (b : List ℕ) : Type 0 where
    pub order : InOrder t b
    pub sound : Passable w h l a
    pub near : Near v w h l a
    pub fresh : Fresh (row_in v w h l a) (passes a.arriving) block (map_of t b)

  -- what its additions start from, with the counters s
  pub record Swept (s : List ℕ) (t : Table) (b : List ℕ) : Type 0 where
    pub order : InOrder t b
    pub sound : Passable w h l a
    pub near : Near v w h l a
    pub news : News (row_in v w h l a) (passes a.arriving) block s (map_of t b)
