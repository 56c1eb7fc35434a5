use mathlib.Core.Path.{◌≡◌}
use Prim.Native.Nat.{◌*◌, ◌≤◌}
use lib.ListN.{length}
use Rattle.table_bytes.specs.Columns.{cols}
use Rattle.table_tree.specs.Tree.{Kept, Leaves}
use Rattle.table_tree.proofs.plant.Given as goal

abbrev pub invariant-loop-i : goal.invariant-loop-i
invariant-loop-i l = (length l.b ≡ 16 * l.r) × (l.i ≤ l.cap) × Kept (cols l.r l.initial.b) (cols l.r l.b) × Leaves l.cap l.i (cols l.r l.b).t
