-- A short row where room is scarce: who is held is met first, and who of the new ones stays. Assumes nothing.
use Rattle.std.specs.Prelude.{◌≡◌, Bool, not, ◌&&◌, List, ℕ, Option, ◌≤◌, ◌<◌, get_or}
use Rattle.journeys.specs.Counting.{one}
use Rattle.passing.specs.Row.{Row, passes}
use Rattle.directed.specs.Directed.{row_in, Passable, Near}
use Rattle.directed.specs.declared.Directed.{Directed}
use Rattle.worktable.specs.Map.{Entry, absent, Map, touched, swept}
use Rattle.worktable.specs.Table.{map_of, InOrder}
use Rattle.worktable.specs.declared.Table.{Table}
use Rattle.meeting.specs.Passing.{missing, meets, goes, along, Enough}
use Rattle.meeting.specs.Answer.{Leads, ArrivedIs}
use Rattle.blocks.specs.Block.{adds_if}

-- a record of the row meets who is held; who has no entry gets none
abbrev pub keeps : Row → ℕ → Entry → Entry
keeps R j e = swept R.allowed (touched (R.offer j) e)

-- a new vertex has an entry when the row is over
abbrev pub lasting : Row → ℕ → ℕ → Bool
lasting R n u = not (missing (along R.from (meets R) n u absent))

-- who is new by m, and stays
abbrev pub comes_to : Row → ℕ → Map → ℕ → Bool
comes_to R n m u = missing (m u) && lasting R n u

-- the marks s tell of each record whether the vertex at its other end is new by m
abbrev pub Marked : Row → ℕ → Map → List ℕ → Type 0
Marked R n m s = (k : ℕ) → k < n → get_or s k 0 ≡ one (missing (m (R.from k)))

module _ (v w h l : List ℕ) (a : Directed) where
  -- all that are held have been met: from the bytes b to c
  abbrev pub KeptAll : Table → List ℕ → List ℕ → Table → Type 0
  KeptAll t b c r = Leads t r c (goes (row_in v w h l a).from (keeps (row_in v w h l a)) (passes a.arriving) (map_of t b))

  -- what the additions start from: the marks s are those of the map before the step
  pub record Adding (s : List ℕ) (t : Table) (b : List ℕ) : Type 0 where
    pub order : InOrder t b
    pub sound : Passable w h l a
    pub near : Near v w h l a
    pub before : Map
    pub marked : Marked (row_in v w h l a) (passes a.arriving) before s
    pub enough : Enough (row_in v w h l a) (passes a.arriving) before
    pub kept : map_of t b ≡ goes (row_in v w h l a).from (keeps (row_in v w h l a)) (passes a.arriving) before

  -- the new ones that stay have been added, whichever map the marks are of
  abbrev pub AddedAll : List ℕ → Table → List ℕ → List ℕ → Option Table → Type 0
  AddedAll s t b c r =
      (m : Map) → Marked (row_in v w h l a) (passes a.arriving) m s → Enough (row_in v w h l a) (passes a.arriving) m → map_of t b ≡ goes (row_in v w h l a).from (keeps (row_in v w h l a)) (passes a.arriving) m
      → ArrivedIs t c (goes (row_in v w h l a).from (adds_if (row_in v w h l a) (comes_to (row_in v w h l a) (passes a.arriving) m)) (passes a.arriving) (map_of t b)) r
