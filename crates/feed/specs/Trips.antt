-- Stops in the order of their lines, each on a trip at its sequence: refusals 15 and 16, and the hops. Assumes nothing.
use Rattle.std.specs.Prelude.{Bool, true, false, not, cond, ◌&&◌, ◌||◌, List, [], ◌∷◌, ◌++◌, ℕ, zero, suc, ◌+◌, max, eqb, ltb, length, get_or}
use Rattle.journeys.specs.Counting.{joined}
use Rattle.journeys.specs.Bytes.{word}
use Rattle.journeys.specs.Refusals.{Refusal, unless, first_from}
use Rattle.feed.specs.Lines.{place}
use Rattle.feed.specs.Stops.{Stop}

-- one of 0 .. n - 1 passes a test
unfoldable pub some : (ℕ → Bool) → ℕ → Bool
some p zero = false
some p (suc n) = some p n || p n

-- a number above every vertex of these stops
unfoldable pub beyond : List Stop → ℕ
beyond [] = 0
beyond (s ∷ S) = max (s.vertex + 1) (beyond S)

abbrev pub no_stop : Stop
no_stop = record { line = 0; trip = 0; trip_number = 0; sequence = 0; vertex = 0; timed = false; arrival = 0; departure = 0 }

module _ (S : List Stop) where
  abbrev pub stop : ℕ → Stop
  stop i = get_or S i no_stop

  -- p and i are stops of one trip, p the earlier in its sequence
  unfoldable pub earlier : ℕ → ℕ → Bool
  earlier p i = eqb (stop p).trip (stop i).trip && ltb (stop p).sequence (stop i).sequence

  -- p and i are consecutive timed stops of a trip
  unfoldable pub between : ℕ → ℕ → ℕ → Bool
  between p i k = (stop k).timed && earlier p k && earlier k i

  unfoldable pub next : ℕ → ℕ → Bool
  next p i = (stop p).timed && (stop i).timed && earlier p i && not (some (between p i) (length S))

  -- 15: an earlier line has the sequence in this trip
  unfoldable pub repeats : ℕ → ℕ → Bool
  repeats i j = eqb (stop j).trip (stop i).trip && eqb (stop j).sequence (stop i).sequence

  unfoldable pub once : ℕ → Bool
  once i = not (some (repeats i) i)

  -- 16: no departure before the arrival at one stop, no arrival before the last timed departure; only between others a stop may be untimed
  unfoldable pub too_soon : ℕ → ℕ → Bool
  too_soon i p = next p i && ltb (stop i).arrival (stop p).departure

  unfoldable pub in_time : ℕ → Bool
  in_time i =
      cond (stop i).timed
      (not (ltb (stop i).departure (stop i).arrival) && not (some (too_soon i) (length S)))
      (some (λ p. earlier p i) (length S) && some (earlier i) (length S))

  -- the lowest line whose stop is not good
  unfoldable pub first_bad_stop : ℕ → (ℕ → Bool) → Refusal
  first_bad_stop number good = first_from (λ i. unless (good i) number (place (stop i).line)) (length S) 0

  -- ---- the hops, one for each pair of consecutive timed stops at different vertices
  unfoldable pub hop : ℕ → ℕ → List ℕ
  hop p i = word (stop p).vertex ++ word (stop i).vertex ++ word (stop p).departure ++ word (stop i).arrival ++ word (stop p).trip_number

  unfoldable pub hop_to : ℕ → ℕ → ℕ → List (List ℕ)
  hop_to v p i = cond (eqb (stop i).vertex v && not (eqb (stop p).vertex v) && next p i) (hop p i ∷ []) []

  -- to one vertex in the order of the lines of departure
  unfoldable pub hops_to : ℕ → List (List ℕ)
  hops_to v = joined (λ p. joined (hop_to v p) (length S)) (length S)

  -- to each vertex in turn
  unfoldable pub hops_of : List (List ℕ)
  hops_of = joined hops_to (beyond S)
