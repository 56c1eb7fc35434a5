use Rattle.std.proofs.Common.{◌≡◌, ℕ, ◌/◌, ◌<◌, ◌≤◌, true, length}
use Rattle.quick.specs.Claims.{in_order}
use Rattle.quick.proofs.ordered.Given as goal

abbrev pub invariant-loop-v : goal.invariant-loop-v
invariant-loop-v l =
    (l.v ≤ l.n) × (l.n ≡ length l.vertices / 12) × ((x : ℕ) → x < l.v → in_order l.hop_size l.vertices l.walks l.hops x ≡ true)
