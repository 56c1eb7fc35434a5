-- What a run with a boarding time, called from C, answers and leaves in every lent byte: RULES 13 and 29. Assumes nothing.
use Rattle.std.specs.Prelude.{List, ◌++◌, ℕ}
use Rattle.journeys.specs.Bytes.{word}
use Rattle.journeys.specs.Query.{Query}
use Rattle.boarding.specs.RideAnswers.{RideLent, RideAnswer, RideAllowed}
use Rattle.answered.specs.Ran.{RanBy}

-- the 24 bytes of an answer
abbrev pub ride_answer_bytes : RideAnswer → List ℕ
ride_answer_bytes a = word a.refusal ++ word a.place ++ word a.settled_count ++ word a.part_count ++ word a.held_count ++ word a.finished

-- the two buffers are the settled list and the scratch
abbrev pub RideRan : RideLent → Query → ℕ → ℕ → List ℕ → List ℕ → List ℕ → List ℕ → ℕ → Type 0
RideRan b Q boarding limit = RanBy (λ (a : RideAnswer). a.settled) (λ (a : RideAnswer). a.scratch) ride_answer_bytes (RideAllowed b Q boarding limit) b.settled b.scratch
