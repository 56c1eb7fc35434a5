-- What is lent to a run with a boarding time. Assumes nothing.
use Rattle.std.specs.Prelude.{List, ℕ}
use Rattle.boarding.specs.RideAnswers.{RideLent}

-- three tables, the size of a hop, the list's buffer and the scratch
abbrev pub ride_lent : List ℕ → List ℕ → List ℕ → ℕ → List ℕ → List ℕ → RideLent
ride_lent v w h size settled scratch = record { vertices = v; walks = w; hops = h; hop_size = size; settled = settled; scratch = scratch }
