use Rattle.std.proofs.Common.{◌≡◌, ℕ, ◌+◌, ◌-◌, ◌*◌, ◌<◌, ◌≤◌, length}
use Rattle.records.specs.Columns.{records_in}
use Rattle.tally.specs.Laid.{Placed}
use Rattle.quick.specs.Claims.{counted_to}
use Rattle.quick.specs.Lists.{Waiting}
use Rattle.quick.proofs.drain_table.Given as goal

abbrev pub invariant-loop-i : goal.invariant-loop-i
invariant-loop-i l =
    (l.i ≤ l.n)
    × (l.n ≡ records_in l.size l.table)
    × (l.waiting ≤ 32)
    × (length l.scratch ≡ 2048)
    × ((k : ℕ) → k < 64 * l.groups → Placed l.scratch k)
    × Waiting l.groups l.waiting (λ k. counted_to l.pairs l.size l.table (l.base + k) l.i) l.initial.scratch l.scratch

abbrev pub decreases-loop-i : goal.decreases-loop-i
decreases-loop-i l = l.n - l.i
