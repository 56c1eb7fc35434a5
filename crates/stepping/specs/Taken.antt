-- The next vertex, and what one step makes of the table and of the settled list. Assumes nothing.
use Rattle.std.specs.Prelude.{◌≡◌, ◌⊎◌, List, ℕ, Option, Some, None, Result, Ok, Err, ◌+◌, ◌*◌, ◌/◌, ◌<◌, ◌≤◌, length}
use Rattle.journeys.specs.Answers.{settled_bytes}
use Rattle.words.specs.Written.{written}
use Rattle.records.specs.Fields.{settled_of}
use Rattle.worktable.specs.Map.{Map, size, Foremost, Waits, state_of, distance_of}
use Rattle.worktable.specs.Table.{map_of, InOrder, Place}
use Rattle.worktable.specs.declared.Nearest.{Nearest}
use Rattle.worktable.specs.declared.Table.{Table}
use Rattle.journeys.specs.Counting.{none}
use Rattle.passing.specs.Row.{Row, passes}
use Rattle.stretches.specs.declared.Stretch.{Stretch}
use Rattle.directed.specs.Directed.{row_in, Passable, Near}
use Rattle.directed.specs.declared.Directed.{Directed}
use Rattle.meeting.specs.Passing.{passed, Enough, Few, Inside}
use Rattle.meeting.specs.Answer.{Leads}
use Rattle.heldmap.specs.Model.{Standing, settled_now}
use Rattle.heldmap.specs.RowsOfTables.{numbers_at, walks_in, hops_in}
use Rattle.stepping.specs.declared.Progress.{Progress}
use Rattle.words.specs.Told.{number_of}
use Rattle.words.specs.Refusal.{Refusal}

-- the foremost entry, within D; or nothing waits within D
unfoldable pub NextIs : Table → List ℕ → ℕ → Option Nearest → Type 0
NextIs t b D (Some x) = Place t b x.vertex x.slot × Foremost (map_of t b) x.vertex x.distance × (x.distance ≤ D)
NextIs t b D None = (u e : ℕ) → Waits (map_of t b) u e → D < e

-- One step from p, which settles v at d: m is the map after it. The bytes are those of the buffers before and after.
pub record Steps (p : Progress) (m : Map) (v d : ℕ) (held' settled settled' : List ℕ) (q : Progress) : Type 0 where
  pub table : Leads p.table q.table held' m
  pub fits : size m ≤ p.table.room
  pub count : q.settled ≡ p.settled + 1
  pub room : p.settled < length settled / 8
  pub listed : settled' ≡ written settled (8 * p.settled) (settled_bytes (settled_of v d))

-- or which of the two has no room: the lower number
abbrev pub Lacks : Progress → Map → List ℕ → ℕ → Type 0
Lacks p m settled n = ((n ≡ 8) × (p.table.room < size m)) ⊎ ((n ≡ 9) × (size m ≤ p.table.room) × (length settled / 8 ≤ p.settled))

unfoldable pub StepIs : Progress → Map → ℕ → ℕ → List ℕ → List ℕ → List ℕ → Result Progress Refusal → Type 0
StepIs p m v d held' settled settled' (Ok q) = Steps p m v d held' settled settled' q
StepIs p m v d held' settled settled' (Err r) = Lacks p m settled (number_of r.reason) × (r.place ≡ p.settled + 1)

-- the row that a step at x passes, and how many records it has
abbrev pub row_from : List ℕ → List ℕ → List ℕ → List ℕ → ℕ → Stretch → Directed → Row
row_from v w h list x s a = row_in v (walks_in a.courier v w x) (hops_in a.courier a.arriving.size v h x) (numbers_at list s) a

-- What a step at x starts from: x waits at its slot, and its row may be passed when it is settled.
pub record Begins (v w h list : List ℕ) (x slot : ℕ) (s : Stretch) (a : Directed) (t : Table) (held : List ℕ) : Type 0 where
  pub order : InOrder t held
  pub place : Place t held x slot
  pub unsettled : state_of (map_of t held x) ≡ 0
  pub some : distance_of (map_of t held x) < none
  pub standing : Standing a.arriving.size v w h x
  pub wide : 16 ≤ a.arriving.size
  pub stretch : s.first + s.many ≤ length list / 4
  pub sound : Passable (walks_in a.courier v w x) (hops_in a.courier a.arriving.size v h x) (numbers_at list s) a
  pub near : Near v (walks_in a.courier v w x) (hops_in a.courier a.arriving.size v h x) (numbers_at list s) a
  pub enough : Enough (row_from v w h list x s a) (passes a.arriving) (settled_now (map_of t held) x)
  pub few : Few (row_from v w h list x s a) (passes a.arriving) (settled_now (map_of t held) x)
  pub inside : Inside (length v / 12) (map_of t held)

-- the map after it
abbrev pub map_after : List ℕ → List ℕ → List ℕ → List ℕ → ℕ → Stretch → Directed → Map → Map
map_after v w h list x s a m = passed (row_from v w h list x s a) (passes a.arriving) (settled_now m x)

-- the step from p with that row
abbrev pub StepMade : List ℕ → List ℕ → List ℕ → List ℕ → ℕ → Stretch → Directed → Progress → List ℕ → List ℕ → List ℕ → List ℕ → Result Progress Refusal → Type 0
StepMade v w h list x s a p held held' settled settled' r =
    StepIs p (map_after v w h list x s a (map_of p.table held)) x a.arriving.distance.0 held' settled settled' r
