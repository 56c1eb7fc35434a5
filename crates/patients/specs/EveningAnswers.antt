-- What an evening answers and what it leaves in every lent byte. Assumes nothing.
use Rattle.std.specs.Prelude.{◌≡◌, ◌≢◌, Bool, List, ℕ, ◌-◌, ◌/◌, ◌<◌, length}
use Rattle.journeys.specs.Counting.{none}
use Rattle.journeys.specs.Bytes.{cleared}
use Rattle.journeys.specs.Query.{Query}
use Rattle.journeys.specs.Refusals.{Refusal, first_from}
use Rattle.journeys.specs.Answers.{Lent, Answer, Allowed, tables, refused_early, refused_late}
use Rattle.evening.specs.Asked.{arriving, evening_refusal}
use Rattle.patients.specs.Evening.{Reaches, report_bytes}

-- the first of the n runs that lacks room, with its step
abbrev pub first_late : (ℕ → Answer) → ℕ → Refusal
first_late run n = first_from (λ j. record { number = (run j).refusal; place = (run j).place }) n 0

-- `run j` is the run with the arrival j and no step limit. Where one of them lacks room, report and buffers are zero; else the answer is that of the last run,
-- buffers included, and the report says whom journeys reach.
pub record Held (b : Lent) (Q : Query) (gap n : ℕ) (patients report : List ℕ) (a : Answer) (report' : List ℕ) : Type 0 where
  pub run : ℕ → Answer
  pub each : (j : ℕ) → j < n → Allowed b (arriving Q gap j) none (run j)
  pub late : (first_late run n).number ≢ 0 → (a ≡ refused_late b (first_late run n)) × (report' ≡ cleared report)
  pub done : (first_late run n).number ≡ 0
      → (a ≡ run (n - 1)) × ((reached : ℕ → ℕ → Bool) × Reaches (tables b) Q gap n reached × (report' ≡ report_bytes reached patients (length b.vertices / 12) n))

pub record EveningAllowed (b : Lent) (Q : Query) (gap n : ℕ) (patients report : List ℕ) (a : Answer) (report' : List ℕ) : Type 0 where
  pub refused : (evening_refusal b Q gap n patients report).number ≢ 0 → (a ≡ refused_early b (evening_refusal b Q gap n patients report)) × (report' ≡ report)
  pub accepted : (evening_refusal b Q gap n patients report).number ≡ 0 → Held b Q gap n patients report a report'
