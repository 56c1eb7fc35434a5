use Rattle.std.proofs.Common.{◌≡◌, ℕ, ◌+◌, ◌≤◌, length}
use Rattle.tally.specs.Laid.{Same}
use Rattle.quick.specs.Claims.{counted_to}
use Rattle.quick.specs.Lists.{Listed}
use Rattle.quick.proofs.sift_each.Given as goal

abbrev pub invariant-loop-i : goal.invariant-loop-i
invariant-loop-i l =
    (l.count + l.start ≤ l.waiting + l.i)
    × (l.start ≤ l.i)
    × (l.i ≤ l.end)
    × (length l.scratch ≡ 2048)
    × ((a : ℕ → ℕ)
    → Listed l.len l.waiting l.initial.scratch a (λ k. counted_to l.pairs l.size l.table (l.base + k) l.start)
    → Listed l.len l.count l.scratch a (λ k. counted_to l.pairs l.size l.table (l.base + k) l.i))
    × Same 0 1984 l.initial.scratch l.scratch
