use Prim.Native.Nat.{◌≤◌, ◌-◌, ◌+◌}
use mathlib.Core.Path.{◌≡◌}
use lib.ListN.{length, drop}
use Rattle.feed.specs.Lines.{lines_of}
use Rattle.reread.specs.Read.{many_lines}
use Rattle.reread.proofs.count_stops.Given as goal

abbrev pub invariant-loop-at : goal.invariant-loop-at
invariant-loop-at l = (l.at ≤ length l.text) × (l.n ≤ l.at) × (l.n + many_lines (lines_of (drop l.at l.text)) ≡ many_lines (lines_of (drop l.from l.text)))

abbrev pub decreases-loop-at : goal.decreases-loop-at
decreases-loop-at l = length l.text - l.at
