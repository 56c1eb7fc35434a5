use mathlib.Core.Path.{◌≡◌}
use Prim.Native.Nat.{◌-◌}
use lib.ListN.{length}
use Rattle.passing.specs.Row.{passes}
use Rattle.directed.specs.Directed.{row_in}
use Rattle.worktable.specs.Map.{Map}
use Rattle.worktable.specs.Table.{map_of}
use Rattle.meeting.specs.Passing.{goes, Enough}
use Rattle.meeting.proofs.Loops.{Went}
use Rattle.blocks.specs.Block.{adds_if}
use Rattle.short.specs.ShortRow.{keeps, comes_to, Marked}
use Rattle.short.proofs.add.Given as goal

abbrev pub invariant-loop-j : goal.invariant-loop-j
invariant-loop-j l =
    (length l.held ≡ length l.initial.held)
    × ((m : Map) → Marked (row_in l.vertices l.walks l.hops l.list l.row) (passes l.row.arriving) m l.marks → Enough (row_in l.vertices l.walks l.hops l.list l.row) (passes l.row.arriving) m
    → map_of l.initial.table l.initial.held ≡ goes (row_in l.vertices l.walks l.hops l.list l.row).from (keeps (row_in l.vertices l.walks l.hops l.list l.row)) (passes l.row.arriving) m
    → Went (row_in l.vertices l.walks l.hops l.list l.row).from (adds_if (row_in l.vertices l.walks l.hops l.list l.row) (comes_to (row_in l.vertices l.walks l.hops l.list l.row) (passes l.row.arriving) m)) l.n l.initial.table l.initial.held l.table l.held l.j)
