use Prim.Native.Nat.{◌-◌}
use lib.ListN.{length}
use Rattle.reread.proofs.Reading.{Going}
use Rattle.reread.proofs.stop_at.Given as goal

abbrev pub invariant-loop-at : goal.invariant-loop-at
invariant-loop-at l = Going l.c l.stops l.trips l.text l.from l.i l.at l.line l.left

abbrev pub decreases-loop-at : goal.decreases-loop-at
decreases-loop-at l = length l.text - l.at
