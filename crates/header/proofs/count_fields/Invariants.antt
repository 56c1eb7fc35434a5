use Prim.Native.Nat.{◌+◌, ◌≤◌, ◌-◌}
use mathlib.Core.Path.{◌≡◌}
use lib.ListN.{length}
use Rattle.feed.specs.Fields.{row_of}
use Rattle.lines.specs.Rows.{row_at}
use Rattle.header.proofs.count_fields.Given as goal

abbrev pub invariant-loop-next : goal.invariant-loop-next
invariant-loop-next l = (l.at ≤ length l.line) × (l.k ≤ l.at) × (l.k + length (row_at l.line l.at).fields ≡ length (row_of l.line).fields) × ((row_at l.line l.at).sound ≡ (row_of l.line).sound)

abbrev pub decreases-loop-next : goal.decreases-loop-next
decreases-loop-next l = length l.line - l.at
