-- The courier's journeys of RULES 27 once more, by the clock: times are signed ticks from midnight of the service day. Assumes nothing.
use Rattle.std.specs.Prelude.{◌≡◌, ◌≢◌, ℕ, ◌+◌, ◌-◌, ◌<◌, ℤ, pos, ◌+ℤ◌, ◌≤ℤ◌}
use Rattle.journeys.specs.Counting.{none}
use Rattle.journeys.specs.Tables.{Tables, walk, hop, walk_count, hop_count}
use Rattle.journeys.specs.Query.{Query, asked, asked_twin, wait_ticks, walk_ticks}
use Rattle.journeys.specs.Clock.{tick}

-- T, at which the courier leaves
abbrev pub departure_tick : Query → ℤ
departure_tick Q = tick Q Q.arrival

-- the courier is at a vertex at a tick
pub data ClockReached (N : Tables) (Q : Query) : ℕ → ℤ → Type 0 where
  along : ClockReached N Q (asked N Q).to (departure_tick Q +ℤ pos (((asked N Q).len - Q.offset) + wait_ticks Q (asked N Q)))
  along_twin : (asked N Q).twin ≢ none → ClockReached N Q (asked N Q).from (departure_tick Q +ℤ pos (Q.offset + wait_ticks Q (asked_twin N Q)))
  at_to : Q.offset ≡ (asked N Q).len → ClockReached N Q (asked N Q).to (departure_tick Q)
  at_from : Q.offset ≡ 0 → ClockReached N Q (asked N Q).from (departure_tick Q)
  by_walk : (i : ℕ) → i < walk_count N → {t : ℤ} → ClockReached N Q (walk N i).from t → ClockReached N Q (walk N i).to (t +ℤ pos (walk_ticks Q (walk N i)))
  by_hop : (j : ℕ) → j < hop_count N → ClockReached N Q (hop N j).from (tick Q (hop N j).departure) → ClockReached N Q (hop N j).to (tick Q (hop N j).arrival)
  wait : {v : ℕ} {t t' : ℤ} → t ≤ℤ t' → ClockReached N Q v t → ClockReached N Q v t'
