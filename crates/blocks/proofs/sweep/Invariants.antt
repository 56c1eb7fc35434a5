use Prim.Native.Nat.{◌-◌}
use Rattle.directed.specs.Directed.{near_of}
use Rattle.meeting.proofs.Loops.{Went}
use Rattle.blocks.specs.Block.{sweeps}
use Rattle.blocks.proofs.sweep.Given as goal

abbrev pub invariant-loop-j : goal.invariant-loop-j
invariant-loop-j l =
    Went (near_of l.walks l.hops l.list l.row) (sweeps l.row.arriving.allowed.0 (near_of l.walks l.hops l.list l.row) l.block) l.n l.initial.table l.initial.held l.table l.held l.j
