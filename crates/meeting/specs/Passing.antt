-- What the records of a row do to the entries of the vertices at their other ends. Assumes nothing.
use Rattle.std.specs.Prelude.{◌≡◌, Bool, true, false, not, cond, List, ℕ, zero, suc, ◌-◌, ◌/◌, ◌≤◌, ◌<◌, eqb, length}
use Rattle.journeys.specs.Counting.{count}
use Rattle.passing.specs.Row.{Row, passes}
use Rattle.directed.specs.Directed.{row_in, Passable, Near}
use Rattle.directed.specs.declared.Directed.{Directed}
use Rattle.worktable.specs.Map.{Entry, absent, known, Figure, Map, put, touched, spent, swept, size}
use Rattle.worktable.specs.Table.{map_of, InOrder}
use Rattle.worktable.specs.declared.Table.{Table}

-- the table is in order, u is one of its vertices, of which there are not too many, and an entry may have the offer x
pub record Offered (t : Table) (b v : List ℕ) (u x : ℕ) : Type 0 where
  pub order : InOrder t b
  pub low : u < length v / 12
  pub few : length v / 12 ≤ 65536
  pub figure : Figure x

unfoldable pub missing : Entry → Bool
missing absent = true
missing (known d s n) = false

-- a vertex whose record with the offer b has been passed, where D is allowed: a new one gets an entry, and that record does not remain to it; a spent one goes, and a new
-- one that is spent with its first record does not come
unfoldable pub entered : ℕ → ℕ → ℕ → Entry → Entry
entered D b due absent = swept D (known b 0 (due - 1))
entered D b due (known d s n) = swept D (known d s n)

-- what a record with the offer b does to the entry of the vertex at its other end
unfoldable pub met : ℕ → ℕ → ℕ → Entry → Entry
met D b due e = entered D b due (touched b e)

-- the first j records, each by f on the entry of the vertex at its other end
unfoldable pub goes : (ℕ → ℕ) → (ℕ → Entry → Entry) → ℕ → Map → Map
goes from f zero m = m
goes from f (suc j) m = put (goes from f j m) (from j) (f j (goes from f j m (from j)))

-- the entry of u when the first j records have gone by f
unfoldable pub along : (ℕ → ℕ) → (ℕ → Entry → Entry) → ℕ → ℕ → Entry → Entry
along from f zero u e = e
along from f (suc j) u e = cond (eqb (from j) u) (f j (along from f j u e)) (along from f j u e)

abbrev pub meets : Row → ℕ → Entry → Entry
meets R j = met R.allowed (R.offer j) (R.departing (R.from j))

-- THE MAP when the first j records of the row have been passed
abbrev pub passed : Row → ℕ → Map → Map
passed R j m = goes R.from (meets R) j m

-- a new vertex is hopeless with a record that offers b: it has no other, and b is above D
abbrev pub futile : ℕ → ℕ → ℕ → Bool
futile D b due = spent D (known b 0 (due - 1))

-- how many of the first n records may bring a new entry: all but the futile ones
abbrev pub comers : Row → ℕ → ℕ
comers R n = count (λ j. not (futile R.allowed (R.offer j) (R.departing (R.from j)))) n

-- how many records of a vertex may still be passed
unfoldable pub left : ℕ → Entry → ℕ
left due absent = due
left due (known d s n) = n

-- how many of the first j records have u at their other end
abbrev pub leaving : Row → ℕ → ℕ → ℕ
leaving R u j = count (λ i. eqb (R.from i) u) j

-- no vertex has more records in the row than remain to it
abbrev pub Enough : Row → ℕ → Map → Type 0
Enough R n m = (u : ℕ) → leaving R u n ≤ left (R.departing u) (m u)

-- a new vertex has no more records in the row than two bytes count, however many it has in all
abbrev pub Few : Row → ℕ → Map → Type 0
Few R n m = (u : ℕ) → m u ≡ absent → leaving R u n ≤ 65535

-- every entry is that of one of the first n vertices
abbrev pub Inside : ℕ → Map → Type 0
Inside n m = (u : ℕ) → n ≤ u → m u ≡ absent

-- of so many slots one is free for each of the first n records that brings an entry
abbrev pub Spacious : Row → ℕ → ℕ → Map → Type 0
Spacious R n slots m =
    (j : ℕ) → j < n → passed R j m (R.from j) ≡ absent → futile R.allowed (R.offer j) (R.departing (R.from j)) ≡ false → size (passed R j m) < slots

-- what the records of a row may be passed by: the table t with the bytes b
pub record Ready (v w h l : List ℕ) (a : Directed) (t : Table) (b : List ℕ) : Type 0 where
  pub order : InOrder t b
  pub sound : Passable w h l a
  pub near : Near v w h l a
  pub enough : Enough (row_in v w h l a) (passes a.arriving) (map_of t b)
  pub few : Few (row_in v w h l a) (passes a.arriving) (map_of t b)
  pub inside : Inside (length v / 12) (map_of t b)
