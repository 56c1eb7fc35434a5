use Prim.Native.Nat.{◌≤◌}
use Rattle.records.specs.Columns.{from_at}
use Rattle.listed.specs.Waiting.{Leave}
use Rattle.listed.proofs.all_leave.Given as goal

abbrev pub invariant-loop-j : goal.invariant-loop-j
invariant-loop-j l = (l.j ≤ l.k) × Leave (from_at l.hop_size l.hops) l.scratch l.j
