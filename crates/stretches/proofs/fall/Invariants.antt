use Prim.Native.Nat.{◌/◌, ◌<◌, ◌≤◌}
use lib.ListN.{length}
use Rattle.stretches.proofs.fall.Given as goal

abbrev pub invariant-loop-i : goal.invariant-loop-i
invariant-loop-i l = (0 < l.i) × (l.end ≤ length l.list / 4) × (length l.list / 4 ≤ 524288)
