-- Journeys, RULES 6 and 7: who can be at the query place by T. Assumes nothing.
-- Time is told by the ticks that are left until T, so that a start before midnight is a number like any other and an earlier start a larger one.
use Rattle.std.specs.Prelude.{◌≡◌, ◌≢◌, ℕ, ◌+◌, ◌-◌, ◌≤◌, ◌<◌}
use Rattle.journeys.specs.Counting.{none}
use Rattle.journeys.specs.Tables.{Tables, walk, hop, walk_count, hop_count}
use Rattle.journeys.specs.Query.{Query, before, asked, walk_ticks, from_ticks, to_ticks}

-- A journey from a vertex, started so many ticks before T, arrives at the query place by T.
pub data Journey (N : Tables) (Q : Query) : ℕ → ℕ → Type 0 where
  -- its end: from "from" of e along e; if e has a twin, from "to" along the twin; if the offset is the length, the place is "to" itself
  from_end : Journey N Q (asked N Q).from (from_ticks N Q)
  to_end : (asked N Q).twin ≢ none → Journey N Q (asked N Q).to (to_ticks N Q)
  at_to : Q.offset ≡ (asked N Q).len → Journey N Q (asked N Q).to 0
  -- a walk record takes its ticks, the wait at "to" among them
  by_walk : (i : ℕ) → i < walk_count N → {d : ℕ} → Journey N Q (walk N i).to d → Journey N Q (walk N i).from (d + walk_ticks Q (walk N i))
  -- a hop leaves at its departure second and ends at its arrival second, which is not after T
  by_hop : (j : ℕ) → j < hop_count N → (hop N j).arrival ≤ Q.arrival
      → Journey N Q (hop N j).to (before Q (hop N j).arrival) → Journey N Q (hop N j).from (before Q (hop N j).departure)
  -- one may be there earlier and wait: for a hop, too
  wait : {v d d' : ℕ} → d ≤ d' → Journey N Q v d → Journey N Q v d'

-- The distance of a vertex: T less the latest start over all its journeys. It has none if there is no journey. The window is left aside.
pub record Distance (N : Tables) (Q : Query) (v d : ℕ) : Type 0 where
  pub starts : Journey N Q v d
  pub latest : (d' : ℕ) → Journey N Q v d' → d ≤ d'

-- A journey from inside the walk record i, at the offset x: on to "to", where one waits; on e, with x at most the offset, straight to the place; on the twin likewise.
-- It takes what is left of the ticks from "from".
-- It is asked of records of the table and of places with 0 < x < length only (`place-exactly`): the subtractions below are then whole.
pub data Inside (N : Tables) (Q : Query) (i x : ℕ) : ℕ → Type 0 where
  onward : {d : ℕ} → Journey N Q (walk N i).to d → Inside N Q i x (d + (walk_ticks Q (walk N i) - x))
  straight : i ≡ Q.walk → x ≤ Q.offset → Inside N Q i x (from_ticks N Q - x)
  straight_twin : i ≡ (asked N Q).twin → x ≤ (asked N Q).len - Q.offset → Inside N Q i x (to_ticks N Q - x)
  wait : {d d' : ℕ} → d ≤ d' → Inside N Q i x d → Inside N Q i x d'
