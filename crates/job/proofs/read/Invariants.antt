use mathlib.Core.Path.{◌≡◌}
use Prim.Native.Nat.{◌/◌, ◌≤◌}
use lib.ListN.{length}
use Rattle.job.proofs.Scan.{Passed}
use Rattle.job.proofs.read.Given as goal

abbrev pub invariant-loop-i : goal.invariant-loop-i
invariant-loop-i l = Passed l.s l.whole l.i l.passed.vertices l.passed.walks l.passed.hops × (l.i ≤ l.whole) × (l.whole ≡ length l.s / 20)
