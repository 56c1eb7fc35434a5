use mathlib.Core.Path.{◌≡◌}
use mathlib.Core.Bool.{true}
use Prim.Native.Nat.{ℕ, ◌≤◌, ◌<◌}
use Rattle.evening.specs.Asked.{patients_ok}
use Rattle.evening.proofs.patients_fault.Given as goal

abbrev pub invariant-loop-v : goal.invariant-loop-v
invariant-loop-v l = (l.v ≤ l.n) × ((k : ℕ) → k < l.v → patients_ok l.patients k ≡ true)
