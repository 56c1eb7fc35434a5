use mathlib.Core.Path.{◌≡◌}
use Prim.Native.Nat.{◌-◌, ◌≤◌}
use lib.ListN.{length, replicate}
use Rattle.passing.specs.Row.{passes}
use Rattle.directed.specs.Directed.{row_in}
use Rattle.worktable.specs.Table.{map_of}
use Rattle.meeting.specs.Answer.{Leads}
use Rattle.arrivals.specs.Range.{over_to}
use Rattle.arrivals.proofs.end_range.Given as goal

abbrev pub invariant-loop-block : goal.invariant-loop-block
invariant-loop-block l =
    (l.first ≤ l.block) × (l.block ≤ l.end)
    × Leads l.initial.table l.table l.held (over_to (row_in l.vertices l.walks l.hops l.list l.row) (passes l.row.arriving) l.first l.block (map_of l.initial.table l.initial.held))
    × (l.counters ≡ replicate 2048 0)
    × (length l.held ≡ length l.initial.held) × (length l.counters ≡ length l.initial.counters)

abbrev pub decreases-loop-block : goal.decreases-loop-block
decreases-loop-block l = l.end - l.block
