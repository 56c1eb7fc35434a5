-- What a single run leaves, by the definition of the run: RULES 11 to 13. Assumes nothing.
use Rattle.std.specs.Prelude.{◌≡◌, List, ℕ}
use Rattle.journeys.specs.Query.{Query}
use Rattle.journeys.specs.Answers.{Lent, Answer, Allowed}
use Rattle.intake.specs.Lending.{lent}
use Rattle.calls.specs.CallBytes.{answer_bytes}
use Rattle.queries.specs.InTurn.{Ask}

-- an answer that the run may give: its two buffers, and its 24 bytes
abbrev pub Left : Lent → Query → ℕ → List ℕ → List ℕ → List ℕ → Type 0
Left b Q limit held settled answer = (a : Answer) × Allowed b Q limit a × (held ≡ a.held) × (settled ≡ a.settled) × (answer ≡ answer_bytes a)

-- the same for one of many, over tables that all of them have
abbrev pub Single : List ℕ → List ℕ → List ℕ → ℕ → List ℕ → List ℕ → Ask → List ℕ → List ℕ → List ℕ → Type 0
Single v w h size held share q held' share' answer = Left (lent v w h size held share) q.query q.limit held' share' answer
