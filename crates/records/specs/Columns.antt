-- The columns that the walk and the hop table share, in records of a size: "from" at byte 0 and "to" at byte 4. Assumes nothing.
use Rattle.std.specs.Prelude.{◌≡◌, Bool, true, List, ℕ, ◌+◌, ◌*◌, ◌/◌, ◌<◌, eqb, ltb, length}
use Rattle.journeys.specs.Counting.{count}
use Rattle.journeys.specs.Bytes.{be32}
use Rattle.journeys.specs.Refusals.{ascends_by}

abbrev pub records_in : ℕ → List ℕ → ℕ
records_in size t = length t / size

abbrev pub from_at : ℕ → List ℕ → ℕ → ℕ
from_at size t i = be32 t (size * i)

abbrev pub to_at : ℕ → List ℕ → ℕ → ℕ
to_at size t i = be32 t (size * i + 4)

-- "to" is not below that of the record before; so for every record
unfoldable pub ascends_at : ℕ → List ℕ → ℕ → Bool
ascends_at size t = ascends_by (to_at size t)

abbrev pub Ascending : ℕ → List ℕ → Type 0
Ascending size t = (i : ℕ) → i < records_in size t → ascends_at size t i ≡ true

-- how many records have a "to" below v; how many leave v
unfoldable pub arriving_below : ℕ → List ℕ → ℕ → ℕ
arriving_below size t v = count (λ i. ltb (to_at size t i) v) (records_in size t)

unfoldable pub leaving : ℕ → List ℕ → ℕ → ℕ
leaving size t v = count (λ i. eqb (from_at size t i) v) (records_in size t)
