-- What a run called from C answers and leaves in every lent byte, in either direction: RULES 13 and 27. Assumes nothing.
use Rattle.std.specs.Prelude.{List, ℕ}
use Rattle.journeys.specs.Query.{Query}
use Rattle.journeys.specs.Answers.{Lent, Answer, Allowed}
use Rattle.journeys.specs.CourierAnswers.{CourierLent, CourierAllowed}
pub use Rattle.calls.specs.CallBytes.{answer_bytes}
use Rattle.answered.specs.Ran.{RanBy}

-- the two buffers are the held table and the settled list
abbrev pub HeldRan : (Answer → Type 0) → List ℕ → List ℕ → List ℕ → List ℕ → List ℕ → List ℕ → ℕ → Type 0
HeldRan = RanBy (λ (a : Answer). a.held) (λ (a : Answer). a.settled) answer_bytes

-- of the ordinary run, and of the courier's
abbrev pub Ran : Lent → Query → ℕ → List ℕ → List ℕ → List ℕ → List ℕ → ℕ → Type 0
Ran b Q limit = HeldRan (Allowed b Q limit) b.held b.settled

abbrev pub CourierRan : CourierLent → Query → ℕ → List ℕ → List ℕ → List ℕ → List ℕ → ℕ → Type 0
CourierRan b Q limit = HeldRan (CourierAllowed b Q limit) b.lent.held b.lent.settled
