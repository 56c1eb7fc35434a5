use mathlib.Core.Path.{◌≡◌}
use mathlib.Core.List.{◌++◌}
use Prim.Native.Nat.{◌+◌, ◌-◌, ◌*◌, ◌≤◌}
use lib.ListN.{length, take}
use Rattle.sorting.specs.Sorted.{recs}
use Rattle.windows.proofs.append.Given as goal

abbrev pub invariant-loop-i : goal.invariant-loop-i
invariant-loop-i l = (length l.target ≡ 20 * l.room) × (l.i ≤ l.m) × (take (l.k + l.i) (recs l.room l.target) ≡ take l.k (recs l.room l.initial.target) ++ take l.i (recs l.n l.b))
