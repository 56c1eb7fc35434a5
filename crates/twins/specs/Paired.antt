-- Walks with a twin. Assumes nothing.
use Rattle.std.specs.Prelude.{Bool, not, ℕ, eqb}
use Rattle.journeys.specs.Counting.{none}
use Rattle.journeys.specs.Tables.{Tables, walk}

abbrev pub has_twin : Tables → ℕ → Bool
has_twin N i = not (eqb (walk N i).twin none)
