-- What the call for parts answers and leaves in every lent byte. Assumes nothing.
use Rattle.std.specs.Prelude.{◌≡◌, ◌≢◌, List, ℕ, length}
use Rattle.journeys.specs.Query.{Query}
use Rattle.journeys.specs.PartAnswers.{PartsLent, PartsAnswer, parts_answer}
use Rattle.journeys.specs.CourierPartAnswers.{CourierPartsLent, courier_parts_answer}
pub use Rattle.answered.specs.PartsOver.{parts_answer_bytes}

-- `slice` is the answer slice as it was lent, `buffer` the part buffer, and behind them stand the two after the call. A slice that is not 12 bytes gets nothing,
-- and then the part buffer gets nothing either; in 12 bytes stands the answer `a`, and in the part buffer what goes with it.
pub record PartsLeft (a : PartsAnswer) (buffer slice parts slice' : List ℕ) (r : ℕ) : Type 0 where
  pub untouched : length slice ≢ 12 → (r ≡ 1) × (parts ≡ buffer) × (slice' ≡ slice)
  pub answered : length slice ≡ 12 → (r ≡ 0) × (parts ≡ a.parts) × (slice' ≡ parts_answer_bytes a)

-- by the answer of the definitions
abbrev pub PartsRan : PartsLent → Query → List ℕ → List ℕ → List ℕ → ℕ → Type 0
PartsRan b Q = PartsLeft (parts_answer b Q) b.parts

-- the same for the courier
abbrev pub CourierPartsRan : CourierPartsLent → Query → List ℕ → List ℕ → List ℕ → ℕ → Type 0
CourierPartsRan b Q = PartsLeft (courier_parts_answer b Q) b.lent.parts
