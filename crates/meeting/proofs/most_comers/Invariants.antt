use mathlib.Core.Path.{◌≡◌}
use Prim.Native.Nat.{◌≤◌}
use Rattle.directed.specs.Directed.{row_in}
use Rattle.meeting.specs.Passing.{comers}
use Rattle.meeting.proofs.most_comers.Given as goal

abbrev pub invariant-loop-i : goal.invariant-loop-i
invariant-loop-i l = (l.i ≤ l.n) × (l.come ≤ l.i) × (l.come ≡ comers (row_in l.vertices l.walks l.hops l.list l.row) l.i)
