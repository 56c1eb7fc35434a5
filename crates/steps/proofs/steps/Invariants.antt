use Prim.Native.Nat.{◌-◌, ◌≤◌}
use mathlib.Core.Path.{◌≡◌}
use lib.ListN.{length, replicate}
use Rattle.journeys.specs.Tables.{tables_of}
use Rattle.records.specs.Asked.{query_of}
use Rattle.steps.specs.Running.{Stands}
use Rattle.steps.proofs.steps.Given as goal

abbrev pub invariant-loop-p : goal.invariant-loop-p
invariant-loop-p l =
    Stands l.courier (tables_of l.hop_size l.vertices l.walks l.hops) (length l.initial.held) (length l.initial.settled) (query_of l.q) l.p l.held l.settled × (l.p.settled ≤ l.limit) × (l.scratch ≡ replicate 2048 0)
    × (length l.held ≡ length l.initial.held) × (length l.settled ≡ length l.initial.settled) × (length l.scratch ≡ length l.initial.scratch)

abbrev pub decreases-loop-p : goal.decreases-loop-p
decreases-loop-p l = l.limit - l.p.settled
