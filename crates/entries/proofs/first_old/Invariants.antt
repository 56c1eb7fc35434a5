use mathlib.Core.Path.{◌≡◌}
use Prim.Native.Nat.{◌/◌, ◌≤◌}
use lib.ListN.{length}
use Rattle.journeys.specs.Counting.{none}
use Rattle.journeys.specs.Lists.{entry_ok}
use Rattle.entries.specs.Noted.{Noted, Before}
use Rattle.entries.proofs.first_old.Given as goal

abbrev pub invariant-loop-i : goal.invariant-loop-i
invariant-loop-i l =
    (l.i ≤ length l.list / 12) × Before (entry_ok 12 l.vertices none l.list) l.i × Noted l.list l.far l.i × (length l.far ≡ length l.initial.far)
