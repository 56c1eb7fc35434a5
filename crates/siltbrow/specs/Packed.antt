-- A refusal as one number of 64 bits: RULES 13.2. Assumes nothing.
use Rattle.std.specs.Prelude.{ℕ, ◌+◌, ◌*◌}
use Rattle.journeys.specs.Refusals.{Refusal}

unfoldable pub packed : Refusal → ℕ
packed r = r.number * 4294967296 + r.place
