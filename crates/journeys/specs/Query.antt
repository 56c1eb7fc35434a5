-- The query, and what turns its seconds into ticks: RULES 5. Assumes nothing.
use Rattle.std.specs.Prelude.{cond, ℕ, ◌+◌, ◌-◌, ◌*◌, eqb}
use Rattle.journeys.specs.Tables.{Tables, Walk, walk}

-- a walk record, an offset on it in decimetres from "from", the arrival T by `clock`, the duration in seconds, the speed in decimetres a second
pub record Query : Type 0 where
  pub walk : ℕ
  pub offset : ℕ
  pub arrival : ℕ
  pub duration : ℕ
  pub speed : ℕ

-- seconds become ticks by the speed: walking one decimetre is one tick
abbrev pub ticks : Query → ℕ → ℕ
ticks Q seconds = seconds * Q.speed

-- D, the duration in ticks
abbrev pub allowed : Query → ℕ
allowed Q = ticks Q Q.duration

-- how many ticks before T a second lies that is not after T
abbrev pub before : Query → ℕ → ℕ
before Q second = ticks Q (Q.arrival - second)

-- how many ticks after T, which is then the departure, a second lies that is not before T
abbrev pub after : Query → ℕ → ℕ
after Q second = ticks Q (second - Q.arrival)

-- the record e of the query, and its twin
abbrev pub asked : Tables → Query → Walk
asked N Q = walk N Q.walk

abbrev pub asked_twin : Tables → Query → Walk
asked_twin N Q = walk N (asked N Q).twin

-- what a walk record costs in ticks: its length, and the wait at its "to"
abbrev pub wait_ticks : Query → Walk → ℕ
wait_ticks Q w = ticks Q w.wait

abbrev pub walk_ticks : Query → Walk → ℕ
walk_ticks Q w = w.len + wait_ticks Q w

-- Of a place on a walk record, by its offset: the place at the length is past the wait, and no other is. What is waited for it, and what it takes to be there from "from".
abbrev pub past_ticks : Query → Walk → ℕ → ℕ
past_ticks Q w offset = cond (eqb offset w.len) (wait_ticks Q w) 0

abbrev pub place_ticks : Query → Walk → ℕ → ℕ
place_ticks Q w offset = offset + past_ticks Q w offset

-- what it takes to the query place from "from" of e, and from "to" along its twin; where there is no twin `asked_twin` has no wait
abbrev pub from_ticks : Tables → Query → ℕ
from_ticks N Q = place_ticks Q (asked N Q) Q.offset

abbrev pub to_ticks : Tables → Query → ℕ
to_ticks N Q = place_ticks Q (asked_twin N Q) ((asked N Q).len - Q.offset)
