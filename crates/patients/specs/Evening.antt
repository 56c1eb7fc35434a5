-- Whom journeys reach in an evening of arrivals, and the report of it: RULES 25. Assumes nothing.
use Rattle.std.specs.Prelude.{◌≡◌, ◌↔◌, Bool, true, cond, List, ◌++◌, ℕ, ◌≤◌, ◌<◌}
use Rattle.journeys.specs.Counting.{count}
use Rattle.journeys.specs.Bytes.{word}
use Rattle.journeys.specs.Tables.{Tables, vertex_count}
use Rattle.journeys.specs.Query.{Query, allowed}
use Rattle.journeys.specs.Journeys.{Journey}
use Rattle.evening.specs.Patients.{sum, patients_of, all_patients, figures}
use Rattle.evening.specs.Asked.{arriving}

-- `reached j v` tells for the arrival j and a vertex v whether a journey from v starts within the allowed time and arrives by then: then v is settled.
pub record Reaches (N : Tables) (Q : Query) (gap n : ℕ) (reached : ℕ → ℕ → Bool) : Type 0 where
  pub exactly : (j v : ℕ) → j < n → v < vertex_count N
      → (reached j v ≡ true) ↔ ((d : ℕ) × (d ≤ allowed (arriving Q gap j)) × Journey N (arriving Q gap j) v d)

-- m vertices and n arrivals
module _ (reached : ℕ → ℕ → Bool) (patients : List ℕ) (m n : ℕ) where
  -- in how many arrivals a vertex is settled
  abbrev pub times_settled : ℕ → ℕ
  times_settled v = count (λ j. reached j v) n

  -- the patients covered at an arrival
  abbrev pub covered : ℕ → ℕ
  covered j = sum (λ v. cond (reached j v) (patients_of patients v) 0) m

-- the report: a figure for each vertex, one for each arrival, and the total
unfoldable pub report_bytes : (ℕ → ℕ → Bool) → List ℕ → ℕ → ℕ → List ℕ
report_bytes reached patients m n =
    figures (times_settled reached patients m n) m ++ figures (covered reached patients m n) n ++ word (all_patients patients m)
