use mathlib.Core.Path.{◌≡◌}
use Prim.Native.Nat.{◌/◌, ◌≤◌}
use lib.Dec.{eqb}
use lib.ListN.{length}
use Rattle.journeys.specs.Refusals.{first_bad}
use Rattle.moves.proofs.Scanned.{left}
use Rattle.moves.specs.Moved.{trip}
use Rattle.moves.proofs.trips.Given as goal

abbrev pub invariant-loop-i : goal.invariant-loop-i
invariant-loop-i l =
    (l.i ≤ l.n) × (l.n ≡ length l.source / 20) × (left 11 (λ j. eqb (trip l.source j) 0) (length l.source / 20) l.i ≡ first_bad 11 (λ j. eqb (trip l.source j) 0) (length l.source / 20))
