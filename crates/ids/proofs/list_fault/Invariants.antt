use Prim.Native.Nat.{◌≤◌, ◌-◌}
use mathlib.Core.Path.{◌≡◌}
use lib.ListN.{length, drop}
use Rattle.journeys.specs.Counting.{none}
use Rattle.feed.specs.Lines.{lines_of, first_bad_line}
use Rattle.feed.specs.Ids.{list_line, ids_refusal}
use Rattle.ids.proofs.list_fault.Given as goal

abbrev pub invariant-loop-at : goal.invariant-loop-at
invariant-loop-at l = (l.at ≤ length l.text) × (l.line ≤ none) × (first_bad_line 29 (list_line l.most) l.line (lines_of (drop l.at l.text)) ≡ ids_refusal l.most l.text)

abbrev pub decreases-loop-at : goal.decreases-loop-at
decreases-loop-at l = length l.text - l.at
