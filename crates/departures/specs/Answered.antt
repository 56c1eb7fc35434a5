-- The answer for the stops of all trips: refusals 15 and 16, the number of hops, and the bytes of the slice. Assumes nothing.
use Rattle.std.specs.Prelude.{cond, ℕ, eqb, length, Result, Ok, Err}
use mathlib.Core.List.{List, flat_map}
use Rattle.journeys.specs.Bytes.{filled, cleared}
use Rattle.journeys.specs.Refusals.{Refusal, or_else}
use Rattle.feed.specs.Stops.{Stop}
use Rattle.feed.specs.Trips.{once, in_time, first_bad_stop, hops_of}
use Rattle.words.specs.declared.Refusal as declared

-- the number of hops that an answer tells: none where it is a refusal
abbrev pub hops_told : {N : Type 0} → Result ℕ (declared.Refusal N) → ℕ
hops_told (Ok hops) = hops
hops_told (Err _) = 0

module _ (S : List Stop) where
  unfoldable pub trips_refusal : Refusal
  trips_refusal = or_else (first_bad_stop S 15 (once S)) (first_bad_stop S 16 (in_time S))

  unfoldable pub trips_hops : ℕ
  trips_hops = cond (eqb trips_refusal.number 0) (length (hops_of S)) 0

  -- a refusal leaves it zero, and behind the hops it is zero
  unfoldable pub trips_bytes : List ℕ → List ℕ
  trips_bytes b = cond (eqb trips_refusal.number 0) (filled b (flat_map (λ h. h) (hops_of S))) (cleared b)
