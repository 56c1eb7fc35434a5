use mathlib.Core.Path.{◌≡◌}
use Prim.Native.Nat.{◌-◌, ◌/◌, ◌≤◌}
use lib.ListN.{length}
use Rattle.journeys.specs.Tables.{tables_of}
use Rattle.journeys.specs.Refusals.{vertex_ok, first_from}
use Rattle.audit.specs.Judging.{vertex_refusals}
use Rattle.audit.proofs.Scan.{refusing}
use Rattle.audit.proofs.judge_counted.Given as goal

abbrev pub invariant-loop-v : goal.invariant-loop-v
invariant-loop-v l =
    (l.v ≤ l.n)
    × (first_from (refusing 6 (vertex_ok (tables_of l.hop_size l.vertices l.walks l.hops))) (l.n - l.v) l.v ≡ vertex_refusals (tables_of l.hop_size l.vertices l.walks l.hops) (length l.vertices / 12) 0)
