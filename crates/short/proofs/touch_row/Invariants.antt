use mathlib.Core.Path.{◌≡◌}
use Prim.Native.Nat.{◌-◌}
use lib.ListN.{length}
use Rattle.directed.specs.Directed.{row_in}
use Rattle.worktable.specs.Table.{map_of}
use Rattle.meeting.proofs.Loops.{Went}
use Rattle.short.specs.ShortRow.{keeps, Marked}
use Rattle.short.proofs.touch_row.Given as goal

abbrev pub invariant-loop-j : goal.invariant-loop-j
invariant-loop-j l =
    Went (row_in l.vertices l.walks l.hops l.list l.row).from (keeps (row_in l.vertices l.walks l.hops l.list l.row)) l.n l.initial.table l.initial.held l.table l.held l.j
    × (length l.marks ≡ length l.initial.marks) × Marked (row_in l.vertices l.walks l.hops l.list l.row) l.j (map_of l.initial.table l.initial.held) l.marks
