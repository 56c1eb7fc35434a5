-- Seconds and ticks as the conversions take them. Assumes nothing.
use Rattle.std.specs.Prelude.{ℕ, ◌+◌, ◌-◌, ◌*◌, ◌≤◌}
use Rattle.std.proofs.Math.IntN.{sub_ℕ}
use Rattle.journeys.specs.Bytes.{midnight}
use Rattle.words.specs.declared.Seconds.{Seconds}

-- a second by `clock`, in signed seconds from midnight
abbrev pub seconds_of : ℕ → Seconds
seconds_of second = record { 0 = sub_ℕ second midnight }

-- a time that a hop or a query may have, by `clock`: -86,400 to 172,800 seconds from midnight
pub record DayTime (second : ℕ) : Type 0 where
  pub low : midnight - 86400 ≤ second
  pub high : second ≤ midnight + 172800

-- the ticks from a second to an arrival that is not before it, both by `clock`: `before` of the query with this arrival and this speed
abbrev pub ticks_before : ℕ → ℕ → ℕ → ℕ
ticks_before arrival second speed = (arrival - second) * speed
