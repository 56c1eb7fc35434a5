-- What the tally of one settled list leaves in the report. Assumes nothing.
use Rattle.std.specs.Prelude.{List, ℕ, zero, suc, ◌+◌, ◌*◌, take}
use Rattle.journeys.specs.Bytes.{be32, word}
use Rattle.journeys.specs.Lists.{vertex_in}
use Rattle.words.specs.Written.{written}
use Rattle.evening.specs.Patients.{sum, patients_of}

-- the report with one more at the vertex of each of the first i entries
unfoldable pub tallied : List ℕ → List ℕ → ℕ → List ℕ
tallied report list zero = report
tallied report list (suc i) =
    let r = tallied report list i in
    written r (4 * vertex_in 8 list i) (word (be32 r (4 * vertex_in 8 list i) + 1))

-- the patients of those entries
unfoldable pub listed_patients : List ℕ → List ℕ → ℕ → ℕ
listed_patients patients list i = sum (λ k. patients_of patients (vertex_in 8 list k)) i

-- what one arrival leaves in the report, whose run listed so many vertices: its tally, and its patients in the figure at `at`
abbrev pub reported : List ℕ → List ℕ → List ℕ → ℕ → ℕ → List ℕ
reported report patients settled n at =
    let list = take (8 * n) settled in
    written (tallied report list n) at (word (listed_patients patients list n))
