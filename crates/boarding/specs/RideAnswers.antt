-- What a run with a boarding time answers and what it leaves in every lent byte: RULES 29. Assumes nothing.
use Rattle.std.specs.Prelude.{◌≡◌, ◌≢◌, cond, ℕ, ◌+◌, ◌*◌, ◌/◌, min, eqb, leb, length, take}
use mathlib.Core.List.{List, [], ◌∷◌, flat_map}
use Rattle.journeys.specs.Bytes.{filled, cleared}
use Rattle.journeys.specs.Tables.{Tables, tables_of, hop_count}
use Rattle.journeys.specs.Query.{Query}
use Rattle.journeys.specs.Settled.{Settled}
use Rattle.journeys.specs.Refusals.{Refusal, unless, chain, first_from, whole_of, table_lengths, contents, query_refusal}
use Rattle.journeys.specs.Answers.{settled_bytes}
use Rattle.boarding.specs.Rides.{Mode, trip_at}
use Rattle.boarding.specs.RideOrder.{IsRideOrder}

-- what is lent: three tables, the size of a hop, a buffer for the settled list and the scratch, as they are at the call
pub record RideLent : Type 0 where
  pub vertices : List ℕ
  pub walks : List ℕ
  pub hops : List ℕ
  pub hop_size : ℕ
  pub settled : List ℕ
  pub scratch : List ℕ

-- the answers, and the two buffers afterwards
pub record RideAnswer : Type 0 where
  pub refusal : ℕ
  pub place : ℕ
  pub settled_count : ℕ
  pub part_count : ℕ
  pub held_count : ℕ
  pub finished : ℕ
  pub settled : List ℕ
  pub scratch : List ℕ

abbrev pub ride_tables : RideLent → Tables
ride_tables b = tables_of b.hop_size b.vertices b.walks b.hops

abbrev pub mode_of : RideLent → ℕ → Mode
mode_of b boarding = record { trip = trip_at b.hop_size b.hops; boarding = boarding }

-- 1 with the places 0, 1, 2 and 4, 2 to 6, 7 with the boarding time as its last place, and 18: none changes a lent byte
unfoldable pub ride_early : RideLent → Query → ℕ → Refusal
ride_early b Q boarding =
    let N = ride_tables b in
    chain
    (table_lengths b.hop_size b.vertices b.walks b.hops
    ∷ unless (whole_of 8 b.settled) 1 4
    ∷ contents N
    ∷ query_refusal N Q
    ∷ unless (leb boarding 600) 7 5
    ∷ unless (leb (4 * hop_count N) (length b.scratch)) 18 0
    ∷ [])

-- a refusal, with what it leaves
unfoldable pub ride_refused : Refusal → List ℕ → List ℕ → RideAnswer
ride_refused r settled scratch =
    record { refusal = r.number; place = r.place; settled_count = 0; part_count = 0; held_count = 0; finished = 0; settled = settled; scratch = scratch }

-- l is the whole order of settling
module _ (b : RideLent) (l : List Settled) where
  -- the earliest of the steps 0 to k after which the list is larger than lent
  unfoldable pub list_room : ℕ → Refusal
  list_room k = first_from (λ j. unless (leb (length (take j l)) (length b.settled / 8)) 9 j) (k + 1) 0

  -- after k steps with room for all; no table is held and no part is made
  unfoldable pub ride_accepted : ℕ → RideAnswer
  ride_accepted k =
      record {
        refusal = 0;
        place = 0;
        settled_count = length (take k l);
        part_count = 0;
        held_count = 0;
        finished = cond (leb (length l) k) 1 0;
        settled = filled b.settled (flat_map settled_bytes (take k l));
        scratch = cleared b.scratch;
      }

  unfoldable pub ride_over : ℕ → RideAnswer
  ride_over limit =
      let k = min limit (length l) in
      cond (eqb (list_room k).number 0) (ride_accepted k) (ride_refused (list_room k) (cleared b.settled) (cleared b.scratch))

-- The answer that such a run may give, for any bytes, query, boarding time and limit: the refusal of the input, or what the order by the rides' distances gives.
pub record RideAllowed (b : RideLent) (Q : Query) (boarding limit : ℕ) (a : RideAnswer) : Type 0 where
  pub refused : (ride_early b Q boarding).number ≢ 0 → a ≡ ride_refused (ride_early b Q boarding) b.settled b.scratch
  pub accepted : (ride_early b Q boarding).number ≡ 0 → (l : List Settled) × IsRideOrder (ride_tables b) Q (mode_of b boarding) l × (a ≡ ride_over b l limit)
