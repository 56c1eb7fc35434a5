use Rattle.std.proofs.Common.{◌≡◌, ◌+◌, ◌≤◌}
use Rattle.journeys.specs.Counting.{count}
use Rattle.records.specs.Columns.{arriving_below}
use Rattle.quick.specs.Claims.{arrives}
use Rattle.quick.proofs.paired.Given as goal

abbrev pub invariant-loop-i : goal.invariant-loop-i
invariant-loop-i l =
    (arriving_below 16 l.walks l.v ≤ l.i) × (l.i ≤ arriving_below 16 l.walks (l.v + 1)) × (l.found ≡ count (arrives l.walks l.v) l.i)
