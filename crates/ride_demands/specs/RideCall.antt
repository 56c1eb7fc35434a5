-- A call of `siltbrow_run_boarding` by name: what it is lent, and what it leaves. The theorems of the demands speak of it. Assumes nothing.
use Rattle.std.specs.Prelude.{◌≡◌, List, ℕ, ◌*◌, ◌/◌, ◌≤◌, ◌<◌, min, length, take}
use Rattle.journeys.specs.Bytes.{be32}
use Rattle.journeys.specs.Tables.{Tables}
use Rattle.journeys.specs.Query.{Query}
use Rattle.journeys.specs.Settled.{Settled}
use Rattle.boarding.specs.Rides.{Mode}
use Rattle.boarding.specs.RideOrder.{IsRideOrder}
use Rattle.boarding.specs.RideAnswers.{RideLent, ride_tables, mode_of}
use Rattle.ride_demands.specs.RideRan.{RideRan}

pub record RideCall : Type 0 where
  -- before the call: the tables, the list's buffer and the scratch, the query, the boarding time, the step limit, the answer slice
  pub lent : RideLent
  pub query : Query
  pub boarding : ℕ
  pub limit : ℕ
  pub slice : List ℕ
  -- after the call: the bytes of the two buffers and of the answer slice, and the number that the call returns
  pub settled : List ℕ
  pub scratch : List ℕ
  pub answer : List ℕ
  pub returned : ℕ

-- The call has completed as its contract says, and its answer slice has 24 bytes.
abbrev pub RideCompleted : RideCall → Type 0
RideCompleted c = RideRan c.lent c.query c.boarding c.limit c.slice c.settled c.scratch c.answer c.returned × (length c.slice ≡ 24)

-- the six numbers as they stand in the answer slice
abbrev pub refusal : RideCall → ℕ
refusal c = be32 c.answer 0

abbrev pub place : RideCall → ℕ
place c = be32 c.answer 4

abbrev pub settled_count : RideCall → ℕ
settled_count c = be32 c.answer 8

abbrev pub part_count : RideCall → ℕ
part_count c = be32 c.answer 12

abbrev pub held_count : RideCall → ℕ
held_count c = be32 c.answer 16

abbrev pub finished : RideCall → ℕ
finished c = be32 c.answer 20

-- the tables that the call reads, and the trips with the boarding time
abbrev pub read : RideCall → Tables
read c = ride_tables c.lent

abbrev pub mode : RideCall → Mode
mode c = mode_of c.lent c.boarding

-- l is the order of settling of its tables, query and boarding time
abbrev pub Orders : RideCall → List Settled → Type 0
Orders c l = IsRideOrder (read c) c.query (mode c) l

-- how many steps the run makes, and S after them
abbrev pub steps : RideCall → List Settled → ℕ
steps c l = min c.limit (length l)

abbrev pub S : RideCall → List Settled → List Settled
S c l = take (steps c l) l

-- how many records the lent list can take
abbrev pub room : RideCall → ℕ
room c = length c.lent.settled / 8

-- some counted record of the settled bytes names v
abbrev pub SettledNames : RideCall → ℕ → Type 0
SettledNames c v = (i : ℕ) × (i < settled_count c) × (be32 c.settled (8 * i) ≡ v)

-- The second call differs from the first in its boarding time alone, which is no shorter; whatever it is lent for its list.
pub record LongerBoarding (c c' : RideCall) : Type 0 where
  pub vertices : c'.lent.vertices ≡ c.lent.vertices
  pub walks : c'.lent.walks ≡ c.lent.walks
  pub hops : c'.lent.hops ≡ c.lent.hops
  pub hop_size : c'.lent.hop_size ≡ c.lent.hop_size
  pub query : c'.query ≡ c.query
  pub boarding : c.boarding ≤ c'.boarding
