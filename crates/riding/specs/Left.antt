-- What a run with a boarding time leaves at its end. Assumes nothing.
use Rattle.std.specs.Prelude.{◌≡◌, List, ℕ, ◌*◌, take}
use Rattle.journeys.specs.Bytes.{filled, cleared}
use Rattle.journeys.specs.Counting.{one}
use Rattle.journeys.specs.Settled.{Settled}
use Rattle.journeys.specs.Query.{Query}
use Rattle.records.specs.declared.Answer.{Answer}
use Rattle.ridesteps.specs.declared.Ridden.{Ridden}
use Rattle.boarding.specs.RideAnswers.{RideLent, RideAnswer, ride_tables, mode_of, ride_over}
use Rattle.boarding.specs.RideOrder.{IsRideOrder}

-- What stands at the front of the list stays, with zero behind it, and nothing stays in the scratch.
pub record Listed (ridden : Ridden) (settled scratch settled' scratch' : List ℕ) (r : Answer) : Type 0 where
  pub answer : r ≡ record { refusal = 0; place = 0; settled = ridden.settled; parts = 0; held = 0; finished = one ridden.finished }
  pub settled_is : settled' ≡ filled settled (take (8 * ridden.settled) settled)
  pub scratch_is : scratch' ≡ cleared scratch

-- the answer of a run that is not refused at once: what the order of settling gives
abbrev pub Answered : RideLent → Query → ℕ → ℕ → RideAnswer → Type 0
Answered b Q boarding limit a = (l : List Settled) × IsRideOrder (ride_tables b) Q (mode_of b boarding) l × (a ≡ ride_over b l limit)
