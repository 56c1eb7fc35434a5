-- The records that are written, by their fields. Assumes nothing.
use Rattle.std.specs.Prelude.{ℕ}
use Rattle.journeys.specs.Network.{Held}
use Rattle.journeys.specs.Order.{Settled}
use Rattle.journeys.specs.Parts.{Part}

abbrev pub held_of : ℕ → ℕ → ℕ → ℕ → Held
held_of v d s r = record { vertex = v; distance = d; state = s; remaining = r }

abbrev pub settled_of : ℕ → ℕ → Settled
settled_of v d = record { vertex = v; distance = d }

abbrev pub part_of : ℕ → ℕ → ℕ → Part
part_of i a b = record { walk = i; start = a; end = b }
