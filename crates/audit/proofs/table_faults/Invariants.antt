use mathlib.Core.Path.{◌≡◌}
use mathlib.Core.Bool.{Bool}
use mathlib.Core.List.{List}
use Prim.Native.Nat.{ℕ, ◌-◌, ◌≤◌, ◌<◌}
use lib.Dec.{eqb}
use Rattle.journeys.specs.Counting.{none, count}
use Rattle.journeys.specs.Refusals.{first_bad}
use Rattle.words.specs.Told.{number_of, told}
use Rattle.records.specs.Columns.{records_in, to_at, ascends_at}
use Rattle.quick.specs.Claims.{twin_at}
use Rattle.audit.specs.Judging.{record_fault}
use Rattle.audit.proofs.table_faults.Given as goal

abbrev pub has_no_twin : List ℕ → ℕ → Bool
has_no_twin t k = eqb (twin_at t k) none

abbrev pub invariant-loop-i : goal.invariant-loop-i
invariant-loop-i l =
    (l.i ≤ l.n)
    × (l.n ≡ records_in l.size l.table)
    × (l.i ≡ 0 → l.before ≡ 0)
    × (0 < l.i → l.before ≡ to_at l.size l.table (l.i - 1))
    × ((k : ℕ) → k < l.i → (record_fault l.kind l.size l.vertices l.table k).number ≡ 0)
    × (told l.order ≡ first_bad (number_of l.reason) (ascends_at l.size l.table) l.i)
    × (l.alone ≡ count (has_no_twin l.table) l.i)
