use Prim.Native.Nat.{◌≤◌, ◌-◌}
use mathlib.Core.Path.{◌≡◌}
use lib.ListN.{length}
use Rattle.feed.specs.Fields.{row_of}
use Rattle.feed.specs.Stops.{column_from, column}
use Rattle.lines.specs.Rows.{row_at}
use Rattle.header.proofs.column_of.Given as goal

abbrev pub invariant-loop-next : goal.invariant-loop-next
invariant-loop-next l = (l.at ≤ length l.line) × (l.k ≤ l.at) × (column_from l.name l.k (row_at l.line l.at).fields ≡ column l.name (row_of l.line))

abbrev pub decreases-loop-next : goal.decreases-loop-next
decreases-loop-next l = length l.line - l.at
