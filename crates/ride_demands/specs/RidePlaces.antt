-- Journeys with rides that start inside a road: RULES 29. Assumes nothing.
use Rattle.std.specs.Prelude.{◌≡◌, ℕ, ◌+◌, ◌-◌, ◌≤◌}
use Rattle.journeys.specs.Tables.{Tables, walk}
use Rattle.journeys.specs.Query.{Query, asked, walk_ticks, from_ticks, to_ticks}
use Rattle.boarding.specs.Rides.{Mode}
use Rattle.boarding.specs.RideJourneys.{RideJourney}

-- A journey from inside the walk record i, at the offset x, as `Inside` has it, with rides in place of hops behind "to".
pub data RideInside (N : Tables) (Q : Query) (M : Mode) (i x : ℕ) : ℕ → Type 0 where
  onward : {d : ℕ} → RideJourney N Q M (walk N i).to d → RideInside N Q M i x (d + (walk_ticks Q (walk N i) - x))
  straight : i ≡ Q.walk → x ≤ Q.offset → RideInside N Q M i x (from_ticks N Q - x)
  straight_twin : i ≡ (asked N Q).twin → x ≤ (asked N Q).len - Q.offset → RideInside N Q M i x (to_ticks N Q - x)
  wait : {d d' : ℕ} → d ≤ d' → RideInside N Q M i x d → RideInside N Q M i x d'
