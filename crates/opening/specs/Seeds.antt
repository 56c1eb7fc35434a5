-- The seeds in the working table, and step 0. Assumes nothing.
use Rattle.std.specs.Prelude.{◌≡◌, ◌≢◌, Bool, not, cond, ◌||◌, List, ℕ, Option, Some, None, IfSome, Result, Ok, Err, ◌+◌, ◌*◌, ◌/◌, ◌<◌, ◌≤◌, eqb, ltb, length}
use Rattle.std.specs.Bool.{then_some}
use Rattle.journeys.specs.Counting.{none}
use Rattle.journeys.specs.Tables.{walk_at}
use Rattle.words.specs.Told.{number_of}
use Rattle.words.specs.Refusal.{Refusal}
use Rattle.words.specs.declared.Seconds.{Seconds}
use Rattle.words.specs.declared.Ticks.{Ticks}
use Rattle.directed.specs.Directed.{due_of}
use Rattle.directed.specs.declared.Directed.{Directed}
use Rattle.opening.specs.declared.Seed.{Seed}
use Rattle.opening.specs.declared.Pair.{Pair}
use Rattle.worktable.specs.Map.{Entry, known, Map, empty, put}
use Rattle.worktable.specs.Table.{Holds}
use Rattle.worktable.specs.declared.Table.{Table}
use Rattle.parts.specs.declared.Road.{Road}
use Rattle.stepping.specs.declared.Progress.{Progress}

-- the seeds: the entry of "from", and that of "to" if it is one
unfoldable pub seed_map : ℕ → Entry → ℕ → Entry → Bool → Map
seed_map from x to y two = cond two (put (put empty from x) to y) (put empty from x)

-- the ticks of the two seeds of the query's road: what it takes from "from", and from "to" along the twin, the wait that the place is past among it
abbrev pub from_ticks_of : Road → ℕ
from_ticks_of e = e.near.0 + e.past.0

abbrev pub to_ticks_of : Road → ℕ
to_ticks_of e = e.back.0 + e.past_back.0

-- whether the place is the end of the road
unfoldable pub at_end : Road → Bool
at_end e = eqb e.back.0 0

-- whether "to" is a seed too: the road has a twin, or the place is its end
unfoldable pub to_is_seed : Road → Bool
to_is_seed e = not (eqb e.twin none) || at_end e

-- ---- the courier's
-- the wait of record i of the walks w; there is none where there is no such record
unfoldable pub wait_on : List ℕ → ℕ → ℕ → ℕ
wait_on w speed i = cond (ltb i (length w / 16)) ((walk_at w i).wait * speed) 0

-- what he takes to the end of record i, which is so far away: who is there already waits for nothing
unfoldable pub sent_ticks : List ℕ → ℕ → ℕ → ℕ → ℕ
sent_ticks w speed left i = cond (eqb left 0) 0 (left + wait_on w speed i)

-- whether "from" is a seed of his too: the road has a twin, or the place is its start
unfoldable pub from_is_seed : Road → Bool
from_is_seed e = not (eqb e.twin none) || eqb e.near.0 0

-- ---- both
-- the numbers of the road are small
pub record RoadFits (w : List ℕ) (e : Road) : Type 0 where
  pub low : e.walk < length w / 16
  pub speed : e.speed ≤ 100
  pub from : from_ticks_of e ≤ 112000
  pub to : to_ticks_of e ≤ 112000
  pub on : sent_ticks w e.speed e.back.0 e.walk ≤ 112000
  pub back : sent_ticks w e.speed e.near.0 e.twin ≤ 112000

-- the seeds are two vertices of n, and their ticks are few
pub record SeedFits (n : ℕ) (s : Seed) : Type 0 where
  pub vertex : s.vertex < n
  pub away : s.away.0 ≤ 112000

pub record PairFits (n : ℕ) (p : Pair) : Type 0 where
  pub sure : SeedFits n p.sure
  pub other : IfSome p.other (λ s. SeedFits n s × (p.sure.vertex ≢ s.vertex))

-- the seeds of the road: "from" is sure, and for the courier "to"
unfoldable pub pair_of : Bool → List ℕ → Road → Pair
pair_of c w e =
    cond c
    (record {
      sure = record { vertex = (walk_at w e.walk).to; away = record { 0 = sent_ticks w e.speed e.back.0 e.walk } };
      other = then_some (from_is_seed e) (record { vertex = (walk_at w e.walk).from; away = record { 0 = sent_ticks w e.speed e.near.0 e.twin } });
    })
    (record {
      sure = record { vertex = (walk_at w e.walk).from; away = record { 0 = from_ticks_of e } };
      other = then_some (to_is_seed e) (record { vertex = (walk_at w e.walk).to; away = record { 0 = to_ticks_of e } });
    })

-- the map m with a seed, where `a` tells what is due to a vertex
abbrev pub planted : List ℕ → Directed → Map → Seed → Map
planted v a m s = put m s.vertex (known s.away.0 0 (due_of v a s.vertex))

-- and with another, if there is one
unfoldable pub planted_if : List ℕ → Directed → Map → Option Seed → Map
planted_if v a m None = m
planted_if v a m (Some s) = planted v a m s

-- their map
abbrev pub pair_map : List ℕ → Directed → Pair → Map
pair_map v a p = planted_if v a (planted v a empty p.sure) p.other

-- how many there are
unfoldable pub one_or_two : Option Seed → ℕ
one_or_two None = 1
one_or_two (Some s) = 2

abbrev pub seed_count : Pair → ℕ
seed_count p = one_or_two p.other

-- a row without records, over these tables
abbrev pub no_records : Bool → ℕ → List ℕ → List ℕ → Seconds → ℕ → Ticks → Directed
no_records c size w h A speed D =
    record {
      arriving = record { walks = 0; hops = 0; size = size; distance = record { 0 = 0 }; arrival = A; speed = speed; allowed = D };
      courier = c;
      ways = length w / 16;
      rides = length h / size;
    }

-- the table holds the seeds; or it has fewer slots than there are seeds
unfoldable pub SeededIs : List ℕ → ℕ → Map → ℕ → Option Table → Type 0
SeededIs b capacity m seeds (Some t) = Holds t b m × (t.room ≡ capacity) × (seeds ≤ capacity)
SeededIs b capacity m seeds None = capacity < seeds

-- Step 0: m is the map of the seeds, of which there are so many.
pub record Opens (capacity : ℕ) (m : Map) (seeds : ℕ) (held' : List ℕ) (p : Progress) : Type 0 where
  pub table : Holds p.table held' m
  pub slots : p.table.room ≡ capacity
  pub fits : seeds ≤ capacity
  pub count : p.settled ≡ 0

-- or there is no room for them
abbrev pub Shut : ℕ → ℕ → ℕ → Type 0
Shut capacity seeds n = (n ≡ 8) × (capacity < seeds)

unfoldable pub OpenIs : ℕ → Map → ℕ → List ℕ → Result Progress Refusal → Type 0
OpenIs capacity m seeds held' (Ok p) = Opens capacity m seeds held' p
OpenIs capacity m seeds held' (Err r) = Shut capacity seeds (number_of r.reason) × (r.place ≡ 0)
