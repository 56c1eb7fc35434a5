use mathlib.Core.Path.{◌≡◌}
use Prim.Native.Nat.{◌*◌, ◌≤◌}
use lib.ListN.{length}
use Rattle.job.specs.Steps.{bodies}
use Rattle.copying.specs.Write.{Wrote}
use Rattle.job.proofs.copy_table.Given as goal

abbrev pub invariant-loop-j : goal.invariant-loop-j
invariant-loop-j l = (l.j ≤ l.count) × (length l.out ≡ length l.initial.out) × (l.at ≡ l.size * l.j) × Wrote l.initial.out 0 (bodies l.s l.size l.from l.j) l.out l.at
