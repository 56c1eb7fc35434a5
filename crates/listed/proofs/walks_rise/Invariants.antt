use Prim.Native.Nat.{◌≤◌}
use Rattle.records.specs.Columns.{records_in, from_at}
use Rattle.listed.specs.Stretches.{Rising}
use Rattle.listed.proofs.walks_rise.Given as goal

abbrev pub invariant-loop-i : goal.invariant-loop-i
invariant-loop-i l =
    (l.first ≤ l.i) × (l.i ≤ l.end) × Rising (from_at 16 l.walks) (records_in 16 l.walks) l.v l.first l.i l.low l.list
