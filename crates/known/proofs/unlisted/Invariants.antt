use Prim.Native.Nat.{◌≤◌, ◌-◌}
use mathlib.Core.Path.{◌≡◌}
use lib.ListN.{length, drop}
use Rattle.journeys.specs.Counting.{none}
use Rattle.journeys.specs.Refusals.{fine}
use Rattle.feed.specs.Lines.{lines_of, first_bad_line}
use Rattle.known.specs.Counted.{counted, id_known}
use Rattle.known.proofs.unlisted.Given as goal

abbrev pub invariant-loop-at : goal.invariant-loop-at
invariant-loop-at l =
    (l.at ≤ length l.text) × (l.line ≤ none) × (first_bad_line 13 (counted l.count) l.line (lines_of (drop l.at l.text)) ≡ fine) × (first_bad_line 14 (id_known l.list l.k) l.line (lines_of (drop l.at l.text)) ≡ first_bad_line 14 (id_known l.list l.k) l.first (lines_of (drop l.from l.text)))

abbrev pub decreases-loop-at : goal.decreases-loop-at
decreases-loop-at l = length l.text - l.at
