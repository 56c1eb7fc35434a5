-- The timetable's answer: a refusal or the number of hops, and every byte of the target. Assumes nothing.
use Rattle.std.specs.Prelude.{◌≡◌, cond, ℕ, ◌/◌, eqb, leb, length}
use mathlib.Core.List.{List, [], ◌∷◌, flat_map}
use Rattle.journeys.specs.Counting.{none}
use Rattle.journeys.specs.Bytes.{filled, cleared}
use Rattle.journeys.specs.Refusals.{Refusal, unless, chain, table_of}
use Rattle.feed.specs.Ids.{ids_refusal}
use Rattle.feed.specs.Stops.{Stop, header_refusal, lines_refusal, known_refusal, stops_of}
use Rattle.feed.specs.Trips.{once, in_time, first_bad_stop, hops_of}

-- the three texts, and the target as it was lent
pub record Feed : Type 0 where
  pub stop_times : List ℕ
  pub stops : List ℕ
  pub trips : List ℕ
  pub target : List ℕ

module _ (F : Feed) where
  abbrev pub stops_in : List Stop
  stops_in = stops_of F.stop_times F.stops F.trips

  unfoldable pub feed_hops : List (List ℕ)
  feed_hops = hops_of stops_in

  unfoldable pub feed_refusal : Refusal
  feed_refusal =
      chain
      (unless (table_of 20 0 262144 F.target) 1 2
      ∷ ids_refusal 65535 F.stops
      ∷ ids_refusal none F.trips
      ∷ header_refusal F.stop_times
      ∷ lines_refusal F.stop_times
      ∷ known_refusal F.stop_times F.stops F.trips
      ∷ first_bad_stop stops_in 15 (once stops_in)
      ∷ first_bad_stop stops_in 16 (in_time stops_in)
      ∷ unless (leb (length feed_hops) (length F.target / 20)) 17 0
      ∷ [])

  -- nothing is refused before 15
  pub record Passed : Type 0 where
    pub target : (unless (table_of 20 0 262144 F.target) 1 2).number ≡ 0
    pub stops : (ids_refusal 65535 F.stops).number ≡ 0
    pub trips : (ids_refusal none F.trips).number ≡ 0
    pub header : (header_refusal F.stop_times).number ≡ 0
    pub lines : (lines_refusal F.stop_times).number ≡ 0
    pub known : (known_refusal F.stop_times F.stops F.trips).number ≡ 0

  unfoldable pub hop_count : ℕ
  hop_count = cond (eqb feed_refusal.number 0) (length feed_hops) 0

  -- 1 changes nothing, every other refusal leaves the target zero, and behind the hops it is zero
  unfoldable pub target_after : List ℕ
  target_after =
      cond (eqb feed_refusal.number 1) F.target
      (cond (eqb feed_refusal.number 0) (filled F.target (flat_map (λ h. h) feed_hops)) (cleared F.target))
