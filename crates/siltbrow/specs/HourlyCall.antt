-- What the call for patients per hour answers and leaves in every lent byte: RULES 25. Assumes nothing.
use Rattle.std.specs.Prelude.{◌≡◌, ◌≢◌, List, ℕ, length}
use Rattle.journeys.specs.Query.{Query}
use Rattle.journeys.specs.Answers.{Lent, Answer}
use Rattle.calls.specs.CallBytes.{answer_bytes}
use Rattle.patients.specs.EveningAnswers.{EveningAllowed}

-- `slice` is the answer slice as it was lent, `report` the report; behind them stand the four written slices after the call.
pub record HourlyRan (b : Lent) (Q : Query) (gap arrivals : ℕ) (patients report slice held settled report' slice' : List ℕ) (r : ℕ) : Type 0 where
  pub untouched : length slice ≢ 24 → (r ≡ 1) × (held ≡ b.held) × (settled ≡ b.settled) × (report' ≡ report) × (slice' ≡ slice)
  pub answered : length slice ≡ 24
      → (r ≡ 0) × ((a : Answer) × EveningAllowed b Q gap arrivals patients report a report' × (held ≡ a.held) × (settled ≡ a.settled) × (slice' ≡ answer_bytes a))
