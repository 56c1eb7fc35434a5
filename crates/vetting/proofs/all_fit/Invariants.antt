use Prim.Native.Nat.{◌≤◌, ◌-◌}
use mathlib.Core.Path.{◌≡◌}
use lib.ListN.{length, drop}
use Rattle.feed.specs.Lines.{lines_of}
use Rattle.stoplist.specs.Made.{entry_good}
use Rattle.vetting.specs.Vetted.{all_fit}
use Rattle.vetting.proofs.all_fit.Given as goal

abbrev pub invariant-loop-at : goal.invariant-loop-at
invariant-loop-at l =
    (l.at ≤ length l.text) × (all_fit (entry_good l.c l.stops l.trips) (lines_of (drop l.at l.text)) ≡ all_fit (entry_good l.c l.stops l.trips) (lines_of (drop l.from l.text)))

abbrev pub decreases-loop-at : goal.decreases-loop-at
decreases-loop-at l = length l.text - l.at
