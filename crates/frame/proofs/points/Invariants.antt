use mathlib.Core.Path.{◌≡◌}
use mathlib.Core.Bool.{true}
use Prim.Native.Nat.{ℕ, ◌≤◌, ◌<◌}
use Rattle.frame.specs.Frames.{point_ok}
use Rattle.frame.proofs.points.Given as goal

abbrev pub invariant-loop-v : goal.invariant-loop-v
invariant-loop-v l = (l.v ≤ l.n) × ((k : ℕ) → k < l.v → point_ok l.coordinates k ≡ true)
