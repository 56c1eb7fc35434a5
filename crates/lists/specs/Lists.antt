-- What the judge of lists answers, as a refusal. Assumes nothing.
use Rattle.std.specs.Prelude.{ℕ, Result, Ok, Err}
use Rattle.journeys.specs.Refusals.{Refusal, fine}

-- each case, as the refusal of a number
unfoldable pub told : {T : Type 0} → ℕ → Result T ℕ → Refusal
told number (Ok _) = fine
told number (Err i) = record { number = number; place = i }
