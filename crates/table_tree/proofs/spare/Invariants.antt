use mathlib.Core.Path.{◌≡◌}
use Prim.Native.Nat.{◌*◌, ◌≤◌}
use lib.ListN.{length}
use Rattle.table_bytes.specs.Columns.{cols}
use Rattle.table_tree.specs.Tree.{Spared}
use Rattle.table_tree.proofs.spare.Given as goal

abbrev pub invariant-loop-i : goal.invariant-loop-i
invariant-loop-i l = (length l.b ≡ 16 * l.r) × (l.from ≤ l.i) × (l.i ≤ l.cap) × Spared l.from l.i (cols l.r l.initial.b) (cols l.r l.b)
