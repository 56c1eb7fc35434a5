use mathlib.Core.Path.{◌≡◌}
use Prim.Native.Nat.{◌+◌, ◌<◌}
use Rattle.directed.specs.Directed.{row_in}
use Rattle.meeting.specs.Passing.{meets}
use Rattle.meeting.proofs.Loops.{Went}
use Rattle.meeting.proofs.meet_all.Given as goal

abbrev pub invariant-loop-j : goal.invariant-loop-j
invariant-loop-j l =
    let R = row_in l.vertices l.walks l.hops l.list l.row in Went R.from (meets R) l.n l.initial.table l.initial.held l.table l.held l.j × ((l.j < l.n → l.u ≡ R.from l.j) × (l.j + 1 < l.n → l.next ≡ R.from (l.j + 1)))
