-- What the code has is what the definitions of the mode have. Assumes nothing.
use mathlib.Core.Path.{◌≡◌, refl}
use Prim.Native.Nat.{ℕ}
use Rattle.journeys.specs.Query.{Query}
use Rattle.boarding.specs.Rides.{Mode}
use Rattle.boarding.specs.RideJourneys.{standing}
use Rattle.trips.specs.Standing.{standing_by}

pub standing_by_lem : (Q : Query) (M : Mode) (departure : ℕ) → standing Q M departure ≡ standing_by Q.arrival Q.speed M.boarding departure
standing_by_lem Q M departure = refl
