use Prim.Native.Nat.{◌+◌, ◌-◌, ◌≤◌, ◌<◌}
use mathlib.Core.Path.{◌≡◌}
use lib.ListN.{length}
use Rattle.feed.specs.Fields.{row_of}
use Rattle.lines.specs.declared.Stand.TheVariants.{Begins}
use Rattle.lines.specs.Passing.{stand}
use Rattle.lines.specs.Rows.{row_at}
use Rattle.rows.specs.Placed.{place_of}
use Rattle.rows.proofs.places_of.Given as goal

abbrev pub invariant-loop-next : goal.invariant-loop-next
invariant-loop-next l =
    (l.at ≤ length l.line) × (l.k ≤ l.at) × (l.k + length (row_at l.line l.at).fields ≡ length (row_of l.line).fields) × ((row_at l.line l.at).sound ≡ (row_of l.line).sound) × (stand l.line l.k 0 ≡ Begins l.at)
    × (l.trip < l.k → l.t ≡ place_of l.line l.trip)
    × (l.arrival < l.k → l.a ≡ place_of l.line l.arrival)
    × (l.departure < l.k → l.d ≡ place_of l.line l.departure)
    × (l.stop < l.k → l.p ≡ place_of l.line l.stop)
    × (l.sequence < l.k → l.q ≡ place_of l.line l.sequence)

abbrev pub decreases-loop-next : goal.decreases-loop-next
decreases-loop-next l = length l.line - l.at
