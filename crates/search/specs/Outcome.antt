-- The answer of a run. Assumes nothing.
use Rattle.std.specs.Prelude.{◌≡◌, Bool, List, ℕ}
use Rattle.journeys.specs.Tables.{Tables}
use Rattle.journeys.specs.Query.{Query}
use Rattle.journeys.specs.Order.{Settled}
use Rattle.journeys.specs.Answers as answers
use Rattle.journeys.specs.RunAnswers.{answer_for}
use Rattle.heldmap.specs.Directions.{network_in}
use Rattle.records.specs.declared.Answer.{Answer}
use Rattle.steps.specs.Running.{OrderIn}

-- the answer with what is left in the buffers, in the terms of RULES 11: a run counts no parts
abbrev pub answer_of : Answer → List ℕ → List ℕ → answers.Answer
answer_of r held settled =
    record {
      refusal = r.refusal;
      place = r.place;
      settled_count = r.settled;
      held_count = r.held;
      finished = r.finished;
      held = held;
      settled = settled;
    }

-- what the steps of a run make in either direction: what the order of settling gives
unfoldable pub AnsweredIn : Bool → Tables → Query → ℕ → List ℕ → List ℕ → answers.Answer → Type 0
AnsweredIn c N Q limit held settled a = (l : List Settled) × OrderIn c N Q l × (a ≡ answer_for (network_in c N Q) held settled l limit)
