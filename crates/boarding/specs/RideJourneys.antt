-- Journeys with rides in place of hops, RULES 29: who can be at the query place by T if changing takes time. Assumes nothing.
-- Time is told as in `Journeys`, by the ticks that are left until T.
use Rattle.std.specs.Prelude.{◌≡◌, ◌≢◌, ℕ, ◌+◌, ◌≤◌, ◌<◌}
use Rattle.journeys.specs.Counting.{none}
use Rattle.journeys.specs.Tables.{Tables, walk, hop, walk_count}
use Rattle.journeys.specs.Query.{Query, ticks, before, asked, walk_ticks, from_ticks, to_ticks}
use Rattle.boarding.specs.Rides.{Mode, Ride}

-- what one must be at the stop before the departure, and at how many ticks before T one must stand there for a departure
abbrev pub board_ticks : Query → Mode → ℕ
board_ticks Q M = ticks Q M.boarding

abbrev pub standing : Query → Mode → ℕ → ℕ
standing Q M departure = before Q departure + board_ticks Q M

-- A journey from a vertex, started so many ticks before T, arrives at the query place by T.
pub data RideJourney (N : Tables) (Q : Query) (M : Mode) : ℕ → ℕ → Type 0 where
  -- ends and walks as in `Journey`
  from_end : RideJourney N Q M (asked N Q).from (from_ticks N Q)
  to_end : (asked N Q).twin ≢ none → RideJourney N Q M (asked N Q).to (to_ticks N Q)
  at_to : Q.offset ≡ (asked N Q).len → RideJourney N Q M (asked N Q).to 0
  by_walk : (i : ℕ) → i < walk_count N → {d : ℕ} → RideJourney N Q M (walk N i).to d → RideJourney N Q M (walk N i).from (d + walk_ticks Q (walk N i))
  -- one stands at the first stop of a ride the boarding time before its departure, for the first ride as for any other; its last hop arrives not after T, and one goes on
  by_ride : {i k : ℕ} → Ride N M i k → (hop N k).arrival ≤ Q.arrival
      → RideJourney N Q M (hop N k).to (before Q (hop N k).arrival) → RideJourney N Q M (hop N i).from (standing Q M (hop N i).departure)
  -- one may be there earlier and wait: for a ride, too
  wait : {v d d' : ℕ} → d ≤ d' → RideJourney N Q M v d → RideJourney N Q M v d'

-- The distance of a vertex: T less the latest start over all its journeys.
pub record RideDistance (N : Tables) (Q : Query) (M : Mode) (v d : ℕ) : Type 0 where
  pub starts : RideJourney N Q M v d
  pub latest : (d' : ℕ) → RideJourney N Q M v d' → d ≤ d'

-- Who is on board of hop j as it leaves can be at the place by T: some ride that begins with j ends in time. No stop between is asked for.
pub record Aboard (N : Tables) (Q : Query) (M : Mode) (j : ℕ) : Type 0 where
  pub last : ℕ
  pub ride : Ride N M j last
  pub in_time : (hop N last).arrival ≤ Q.arrival
  pub on : RideJourney N Q M (hop N last).to (before Q (hop N last).arrival)
