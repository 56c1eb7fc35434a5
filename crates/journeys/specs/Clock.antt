-- The journeys of RULES 6 once more, by the clock: times are signed ticks from midnight of the service day. Assumes nothing.
use Rattle.std.specs.Prelude.{◌≡◌, ◌≢◌, ℕ, ◌-◌, ◌<◌, ℤ, pos, ◌-ℤ◌, ◌*ℤ◌, ◌≤ℤ◌}
use Rattle.std.proofs.Math.IntN.{sub_ℕ}
use Rattle.journeys.specs.Counting.{none}
use Rattle.journeys.specs.Bytes.{midnight}
use Rattle.journeys.specs.Tables.{Tables, walk, hop, walk_count, hop_count}
use Rattle.journeys.specs.Query.{Query, asked, walk_ticks, from_ticks, to_ticks}

-- a second that is told by `clock`, in signed ticks from midnight
abbrev pub tick : Query → ℕ → ℤ
tick Q second = sub_ℕ second midnight *ℤ pos Q.speed

-- T
abbrev pub arrival_tick : Query → ℤ
arrival_tick Q = tick Q Q.arrival

-- a journey from a vertex that starts at a tick
pub data ClockJourney (N : Tables) (Q : Query) : ℕ → ℤ → Type 0 where
  from_end : ClockJourney N Q (asked N Q).from (arrival_tick Q -ℤ pos (from_ticks N Q))
  to_end : (asked N Q).twin ≢ none → ClockJourney N Q (asked N Q).to (arrival_tick Q -ℤ pos (to_ticks N Q))
  at_to : Q.offset ≡ (asked N Q).len → ClockJourney N Q (asked N Q).to (arrival_tick Q)
  by_walk : (i : ℕ) → i < walk_count N → {t : ℤ} → ClockJourney N Q (walk N i).to t → ClockJourney N Q (walk N i).from (t -ℤ pos (walk_ticks Q (walk N i)))
  by_hop : (j : ℕ) → j < hop_count N → ClockJourney N Q (hop N j).to (tick Q (hop N j).arrival) → ClockJourney N Q (hop N j).from (tick Q (hop N j).departure)
  wait : {v : ℕ} {t t' : ℤ} → t' ≤ℤ t → ClockJourney N Q v t → ClockJourney N Q v t'
