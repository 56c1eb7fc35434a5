-- What is lent to a run with a boarding time, and its answer. Assumes nothing.
use Rattle.std.specs.Prelude.{List, ℕ}
use Rattle.records.specs.declared.Answer.{Answer}
use Rattle.boarding.specs.RideAnswers.{RideAnswer}
pub use Rattle.ride_intake.specs.Lending.{ride_lent}

-- the answer with what is left in the list's buffer and in the scratch, in the terms of RULES 29
abbrev pub ride_answer_of : Answer → List ℕ → List ℕ → RideAnswer
ride_answer_of r settled scratch =
    record {
      refusal = r.refusal;
      place = r.place;
      settled_count = r.settled;
      part_count = r.parts;
      held_count = r.held;
      finished = r.finished;
      settled = settled;
      scratch = scratch;
    }
