use Prim.Native.Nat.{◌-◌}
use Rattle.directed.specs.Directed.{row_in}
use Rattle.meeting.proofs.Loops.{Went}
use Rattle.blocks.specs.Block.{adds}
use Rattle.blocks.proofs.add.Given as goal

abbrev pub invariant-loop-j : goal.invariant-loop-j
invariant-loop-j l =
    Went (row_in l.vertices l.walks l.hops l.list l.row).from (adds (row_in l.vertices l.walks l.hops l.list l.row) l.counters l.block) l.n l.initial.table l.initial.held l.table l.held l.j
