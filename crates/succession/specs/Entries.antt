-- A stop of a trip as one record of 20 bytes, and the lowest line among stops that are not good.
use Rattle.std.specs.Prelude.{◌≡◌, Bool, true, cond, ◌&&◌, List, map, ℕ, zero, suc, ◌-◌, ◌/◌, ◌%◌, ◌<◌, ◌^◌, eqb, ltb, length}
use Rattle.journeys.specs.Counting.{none, least}
use Rattle.feed.specs.Stops.{Stop}
use Rattle.feed.specs.Trips.{stop, once}

-- From the last bytes to the first: the trip, the sequence, where the line begins, which stands for the line; then the vertex, a bit
-- for timed, and the two times of 18 bits. So records in ascending order are stops by trip, sequence and line.
abbrev pub stop_in : ℕ → Stop
stop_in x =
    record {
      line = x / 2 ^ 64 % 2 ^ 64 % 2 ^ 32;
      trip = x / 2 ^ 64 / 2 ^ 64;
      trip_number = 0;
      sequence = x / 2 ^ 64 % 2 ^ 64 / 2 ^ 32;
      vertex = x % 2 ^ 64 / 2 ^ 40;
      timed = eqb (x % 2 ^ 64 / 2 ^ 36 % 2) 1;
      arrival = x % 2 ^ 64 / 2 ^ 18 % 2 ^ 18;
      departure = x % 2 ^ 64 % 2 ^ 18;
    }

abbrev pub stops_in : List ℕ → List Stop
stops_in l = map stop_in l

module _ (S : List Stop) where
  -- the lowest line of a stop that is not good; none where all are good
  unfoldable pub lowest_bad : (ℕ → Bool) → ℕ
  lowest_bad good = least (λ i. cond (good i) none (stop S i).line) (length S)

  abbrev pub AllOnce : Type 0
  AllOnce = (i : ℕ) → i < length S → once S i ≡ true

  -- The last timed stop before i in its trip, counted from 1; 0 where there is none. `before` is what stood there for the stop before i.
  abbrev pub last_from : ℕ → ℕ → ℕ
  last_from i before =
      cond (eqb i 0) 0 (cond (eqb (stop S (i - 1)).trip (stop S i).trip) (cond (stop S (i - 1)).timed i before) 0)

  unfoldable pub last_timed : ℕ → ℕ
  last_timed zero = 0
  last_timed (suc i) = last_from (suc i) (last_timed i)

  -- stop i is reached before the stop `last`, counted from 1, is left
  unfoldable pub falls_back : ℕ → ℕ → Bool
  falls_back last i = ltb 0 last && ltb (stop S i).arrival (stop S (last - 1)).departure
