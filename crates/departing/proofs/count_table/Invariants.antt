use mathlib.Core.Path.{◌≡◌}
use Prim.Native.Nat.{ℕ, ◌+◌, ◌≤◌}
use lib.ListN.{length}
use Rattle.departing.specs.Scratch.{Outside, Counted}
use Rattle.departing.proofs.Counters.{leaving_to}
use Rattle.departing.proofs.count_table.Given as goal

abbrev pub invariant-loop-i : goal.invariant-loop-i
invariant-loop-i l =
    (l.start ≤ l.i)
    × (l.i ≤ l.end)
    × (length l.scratch ≡ 2048)
    × ((all : ℕ → ℕ) → Counted l.len l.first l.initial.scratch all → Counted l.len l.low l.scratch (λ k. all k + leaving_to l.size l.table (l.base + k) l.i))
    × Outside 0 1904 l.initial.scratch l.scratch
