-- The patients of vertices and sums of them, and figures of 4 bytes: RULES 25. Assumes nothing.
use Rattle.std.specs.Prelude.{List, ℕ, zero, suc, ◌+◌, ◌*◌}
use Rattle.journeys.specs.Counting.{joined}
use Rattle.journeys.specs.Bytes.{be32, word}

-- f 0 + f 1 + .. + f (n - 1)
unfoldable pub sum : (ℕ → ℕ) → ℕ → ℕ
sum f zero = 0
sum f (suc n) = sum f n + f n

-- the patients of a vertex: one count of 4 bytes for each
abbrev pub patients_of : List ℕ → ℕ → ℕ
patients_of patients v = be32 patients (4 * v)

-- all patients of the table, covered or not
abbrev pub all_patients : List ℕ → ℕ → ℕ
all_patients patients m = sum (patients_of patients) m

-- so many figures of 4 bytes
abbrev pub figures : (ℕ → ℕ) → ℕ → List ℕ
figures f n = joined (λ i. word (f i)) n
