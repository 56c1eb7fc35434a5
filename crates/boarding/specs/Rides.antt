-- Trips and rides, RULES 29: hops of one trip that fit are one ride. Assumes nothing.
use Rattle.std.specs.Prelude.{◌≡◌, ◌≢◌, cond, List, ℕ, ◌+◌, ◌*◌, ◌≤◌, ◌<◌, eqb}
use Rattle.journeys.specs.Bytes.{be32}
use Rattle.journeys.specs.Tables.{Tables, hop, hop_count}

-- the trip of a hop record by the size of a hop: the last four bytes of 20; of 16 every trip is unknown, 0
unfoldable pub trip_at : ℕ → List ℕ → ℕ → ℕ
trip_at size b j = cond (eqb size 20) (be32 b (20 * j + 16)) 0

-- what the mode has beside tables and query: the trip of each hop, and the boarding time in seconds
pub record Mode : Type 0 where
  pub trip : ℕ → ℕ
  pub boarding : ℕ

-- One stays in the vehicle from hop i to hop j: they are of one trip, which is known, and j starts where i ended and not before its arrival.
pub record Stays (N : Tables) (M : Mode) (i j : ℕ) : Type 0 where
  pub known : M.trip i ≢ 0
  pub one_trip : M.trip i ≡ M.trip j
  pub there : (hop N i).to ≡ (hop N j).from
  pub in_time : (hop N i).arrival ≤ (hop N j).departure

-- A ride from its first hop to its last: one hop, or a hop and a ride for which one stays. The records may stand in any order, and one may leave after any hop.
pub data Ride (N : Tables) (M : Mode) : ℕ → ℕ → Type 0 where
  alone : (j : ℕ) → j < hop_count N → Ride N M j j
  onward : (i : ℕ) {j k : ℕ} → i < hop_count N → Stays N M i j → Ride N M j k → Ride N M i k
