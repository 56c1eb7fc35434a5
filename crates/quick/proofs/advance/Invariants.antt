use Rattle.std.proofs.Common.{◌≡◌, ℕ, ◌-◌, ◌<◌, ◌≤◌, true, length}
use Rattle.journeys.specs.Tables.{tables_of}
use Rattle.journeys.specs.Refusals.{vertex_ok}
use Rattle.quick.proofs.advance.Given as goal

abbrev pub invariant-loop-base : goal.invariant-loop-base
invariant-loop-base l =
    (l.start ≤ l.base) × (l.base ≤ l.limit) × (length l.scratch ≡ 2048) × ((v : ℕ) → l.start ≤ v → v < l.base → vertex_ok (tables_of l.hop_size l.vertices l.walks l.hops) v ≡ true)

abbrev pub decreases-loop-base : goal.decreases-loop-base
decreases-loop-base l = l.limit - l.base
