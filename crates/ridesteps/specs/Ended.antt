-- How the steps with a boarding time end, in terms of the order of settling. Assumes nothing.
use Rattle.std.specs.Prelude.{◌≡◌, Bool, ℕ, Result, Ok, Err, ◌*◌, ◌/◌, ◌≤◌, ◌<◌, min, leb, length, take}
use mathlib.Core.List.{List, flat_map}
use Rattle.journeys.specs.Tables.{Tables}
use Rattle.journeys.specs.Query.{Query}
use Rattle.journeys.specs.Settled.{Settled}
use Rattle.journeys.specs.Answers.{settled_bytes}
use Rattle.boarding.specs.Rides.{Mode}
use Rattle.boarding.specs.RideOrder.{IsRideOrder}
use Rattle.ridesteps.specs.declared.Ridden.{Ridden}
use Rattle.words.specs.declared.Reason.TheVariants as reason
use Rattle.words.specs.Refusal.{Refusal}

-- n vertices of the order l stand at the front of the list, for each of which a buffer of this length has room
pub record Lists (l : List Settled) (long n : ℕ) (settled : List ℕ) : Type 0 where
  pub length_is : length settled ≡ long
  pub listed : take (8 * n) settled ≡ flat_map settled_bytes (take n l)
  pub room : (j : ℕ) → j ≤ n → length (take j l) ≤ long / 8

-- The steps are over: as many as the limit and the order allow; or the first step after which the list is larger than lent.
pub record RidesOver (l : List Settled) (long limit n : ℕ) (finished : Bool) (settled : List ℕ) : Type 0 where
  pub lists : Lists l long n settled
  pub steps : n ≡ min limit (length l)
  pub finished_is : finished ≡ leb (length l) n

pub record RidesShort (l : List Settled) (long limit step : ℕ) (settled : List ℕ) : Type 0 where
  pub length_is : length settled ≡ long
  pub made : step ≤ min limit (length l)
  pub lacks : long / 8 < length (take step l)
  pub before : (j : ℕ) → j < step → length (take j l) ≤ long / 8

unfoldable pub RiddenIs : List Settled → ℕ → ℕ → List ℕ → Result Ridden Refusal → Type 0
RiddenIs l long limit settled (Ok r) = RidesOver l long limit r.settled r.finished settled
RiddenIs l long limit settled (Err r) = (r.reason ≡ reason.SettledRoom) × RidesShort l long limit r.place settled

-- for the order of settling, whichever list that is
abbrev pub RidesEnd : Tables → Query → Mode → ℕ → ℕ → List ℕ → Result Ridden Refusal → Type 0
RidesEnd N Q M long limit settled r = (l : List Settled) → IsRideOrder N Q M l → RiddenIs l long limit settled r
