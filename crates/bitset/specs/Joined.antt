-- A set as a function, with one number more. Assumes nothing.
use Rattle.std.specs.Prelude.{Bool, true, cond, ℕ, eqb}

abbrev pub joined : (ℕ → Bool) → ℕ → ℕ → Bool
joined s k i = cond (eqb i k) true (s i)
