-- The hops between consecutive timed stops, of stops that stand by trip and sequence.
use Rattle.std.specs.Prelude.{Bool, cond, not, ◌&&◌, List, [], ◌∷◌, ◌++◌, ℕ, ◌+◌, ◌-◌, ◌*◌, ◌^◌, eqb, ltb, length, drop}
use Rattle.journeys.specs.Counting.{joined}
use Rattle.feed.specs.Stops.{Stop}
use Rattle.feed.specs.Trips.{stop}
use Rattle.succession.specs.Entries.{stops_in, last_timed}

module _ (S : List Stop) where
  -- A hop from stop p to stop i as one record: "to" and the line of the departure stand last, so that they are compared first; then the
  -- trip, "from", and the two times of 18 bits.
  unfoldable pub hop_entry : ℕ → ℕ → ℕ
  hop_entry p i =
      ((stop S p).vertex * 2 ^ 36 + (stop S p).departure * 2 ^ 18 + (stop S i).arrival)
      + 2 ^ 64 * (((stop S p).line * 2 ^ 32 + (stop S p).trip) + 2 ^ 64 * (stop S i).vertex)

  -- a hop ends at i: it is timed, and the last timed stop is at another vertex
  unfoldable pub ends : ℕ → ℕ → Bool
  ends last i = ltb 0 last && ((stop S i).timed && not (eqb (stop S (last - 1)).vertex (stop S i).vertex))

  unfoldable pub hop_at : ℕ → List ℕ
  hop_at i = cond (ends (last_timed S i) i) (hop_entry (last_timed S i - 1) i ∷ []) []

  -- those that end at one of the first n stops
  unfoldable pub hop_entries : ℕ → List ℕ
  hop_entries n = joined hop_at n

-- in front of what was not yet written over
unfoldable pub gathered_in : List ℕ → ℕ → List ℕ
gathered_in W i = hop_entries (stops_in W) i ++ drop (length (hop_entries (stops_in W) i)) W
