use Prim.Native.Nat.{◌+◌, ◌≤◌, ◌-◌}
use mathlib.Core.Path.{◌≡◌}
use lib.ListN.{length}
use Rattle.feed.specs.Fields.{row_of}
use Rattle.feed.specs.Stops.{times}
use Rattle.lines.specs.Rows.{row_at}
use Rattle.header.proofs.times_named.Given as goal

abbrev pub invariant-loop-next : goal.invariant-loop-next
invariant-loop-next l = (l.at ≤ length l.line) × (l.found ≤ l.at) × (l.found + times l.name (row_at l.line l.at).fields ≡ times l.name (row_of l.line).fields)

abbrev pub decreases-loop-next : goal.decreases-loop-next
decreases-loop-next l = length l.line - l.at
