-- The time of a departure as one stands for it, by the numbers that the code has. Assumes nothing.
use Rattle.std.specs.Prelude.{ℕ, ◌+◌, ◌*◌}
use Rattle.words.specs.Quantities.{ticks_before}

-- `standing` of a query with this arrival and this speed and a mode with this boarding time
abbrev pub standing_by : ℕ → ℕ → ℕ → ℕ → ℕ
standing_by arrival speed boarding departure = ticks_before arrival departure speed + boarding * speed
