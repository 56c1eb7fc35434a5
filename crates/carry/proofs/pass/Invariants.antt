use mathlib.Core.Path.{◌≡◌}
use Prim.Native.Nat.{◌-◌, ◌*◌, ◌≤◌}
use lib.ListN.{length}
use Rattle.sorting.specs.Sorted.{recs}
use Rattle.carry.proofs.Folds.{Going}
use Rattle.carry.proofs.pass.Given as goal

abbrev pub invariant-loop-i : goal.invariant-loop-i
invariant-loop-i l = (length l.b ≡ 20 * l.n) × (l.i ≤ l.m) × Going (recs l.n l.initial.b) (recs l.n l.b) l.initial.c l.c l.k l.i
