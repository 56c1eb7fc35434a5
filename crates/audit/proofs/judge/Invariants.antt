use mathlib.Core.Path.{◌≡◌}
use Prim.Native.Nat.{◌+◌, ◌-◌, ◌≤◌}
use Rattle.journeys.specs.Tables.{tables_of}
use Rattle.journeys.specs.Refusals.{vertex_ok, first_from}
use Rattle.audit.specs.Judging.{vertex_refusals}
use Rattle.audit.proofs.Scan.{refusing}
use Rattle.audit.proofs.judge.Given as goal

abbrev pub invariant-loop-k : goal.invariant-loop-k
invariant-loop-k l =
    (l.k ≤ l.low)
    × (first_from (refusing 6 (vertex_ok (tables_of l.hop_size l.vertices l.walks l.hops))) (l.low - l.k) (l.base + l.k) ≡ vertex_refusals (tables_of l.hop_size l.vertices l.walks l.hops) l.low l.base)
