-- Journeys of a courier, RULES 27: who leaves the query place at T and where he can be. Assumes nothing.
-- Time is told by the ticks since T, so that a later moment is a larger number.
use Rattle.std.specs.Prelude.{◌≡◌, ◌≢◌, ℕ, ◌+◌, ◌-◌, ◌≤◌, ◌<◌}
use Rattle.journeys.specs.Counting.{none}
use Rattle.journeys.specs.Tables.{Tables, walk, hop, walk_count, hop_count}
use Rattle.journeys.specs.Query.{Query, after, asked, asked_twin, wait_ticks, walk_ticks}

-- The courier can be at a vertex so many ticks after T.
pub data Reached (N : Tables) (Q : Query) : ℕ → ℕ → Type 0 where
  -- its start: along e to "to", past the wait there; if e has a twin, along the twin to "from", past the wait there;
  -- if the offset is the length, the place is "to" itself; if it is 0, the place is "from" itself, with a twin or without
  along : Reached N Q (asked N Q).to (((asked N Q).len - Q.offset) + wait_ticks Q (asked N Q))
  along_twin : (asked N Q).twin ≢ none → Reached N Q (asked N Q).from (Q.offset + wait_ticks Q (asked_twin N Q))
  at_to : Q.offset ≡ (asked N Q).len → Reached N Q (asked N Q).to 0
  at_from : Q.offset ≡ 0 → Reached N Q (asked N Q).from 0
  -- a walk record takes its ticks, the wait before "to" among them
  by_walk : (i : ℕ) → i < walk_count N → {d : ℕ} → Reached N Q (walk N i).from d → Reached N Q (walk N i).to (d + walk_ticks Q (walk N i))
  -- a hop is boarded by who is there at its departure second, which is not before T, and ends at its arrival second
  by_hop : (j : ℕ) → j < hop_count N → Q.arrival ≤ (hop N j).departure
      → Reached N Q (hop N j).from (after Q (hop N j).departure) → Reached N Q (hop N j).to (after Q (hop N j).arrival)
  -- who is there earlier may wait: for a hop, too
  wait : {v d d' : ℕ} → d ≤ d' → Reached N Q v d → Reached N Q v d'

-- The courier's distance of a vertex: the earliest arrival over all his journeys, less T. It has none if he cannot get there. The window is left aside.
pub record CourierDistance (N : Tables) (Q : Query) (v d : ℕ) : Type 0 where
  pub arrives : Reached N Q v d
  pub earliest : (d' : ℕ) → Reached N Q v d' → d ≤ d'

-- The courier can be inside the walk record i, at the offset x, so many ticks after T: on from "from"; on e, with x at least the offset, straight from the place; on
-- the twin likewise. The wait stands before "to", so no place inside has passed it.
-- It is asked of records of the table and of places with 0 < x < length only (`place-exactly`).
pub data InsideReached (N : Tables) (Q : Query) (i x : ℕ) : ℕ → Type 0 where
  onward : {d : ℕ} → Reached N Q (walk N i).from d → InsideReached N Q i x (d + x)
  straight : i ≡ Q.walk → Q.offset ≤ x → InsideReached N Q i x (x - Q.offset)
  straight_twin : i ≡ (asked N Q).twin → (asked N Q).len - Q.offset ≤ x → InsideReached N Q i x (x - ((asked N Q).len - Q.offset))
  wait : {d d' : ℕ} → d ≤ d' → InsideReached N Q i x d → InsideReached N Q i x d'
