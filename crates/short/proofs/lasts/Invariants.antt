use mathlib.Core.Path.{◌≡◌}
use Prim.Native.Nat.{◌-◌, ◌+◌, ◌≤◌}
use Rattle.directed.specs.Directed.{due_of, row_in}
use Rattle.blocks.proofs.Chances.{overs}
use Rattle.short.proofs.lasts.Given as goal

abbrev pub invariant-loop-i : goal.invariant-loop-i
invariant-loop-i l = (l.i ≤ l.n) × (l.hope + overs (row_in l.vertices l.walks l.hops l.list l.row) l.u l.i ≡ due_of l.vertices l.row l.u)
