use Prim.Native.Nat.{◌≤◌, ◌-◌}
use mathlib.Core.Path.{◌≡◌}
use lib.ListN.{length, drop}
use Rattle.journeys.specs.Counting.{none}
use Rattle.feed.specs.Lines.{lines_of, first_bad_line}
use Rattle.stops.specs.StopLines.{line_good}
use Rattle.stops.proofs.lines_fault.Given as goal

abbrev pub invariant-loop-at : goal.invariant-loop-at
invariant-loop-at l = (l.at ≤ length l.text) × (l.line ≤ none) × (first_bad_line 13 (line_good l.count l.arrival l.departure l.sequence) l.line (lines_of (drop l.at l.text)) ≡ first_bad_line 13 (line_good l.count l.arrival l.departure l.sequence) l.first (lines_of (drop l.from l.text)))

abbrev pub decreases-loop-at : goal.decreases-loop-at
decreases-loop-at l = length l.text - l.at
