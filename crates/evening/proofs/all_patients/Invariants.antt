use mathlib.Core.Path.{◌≡◌}
use Prim.Native.Nat.{◌≤◌}
use Rattle.evening.specs.Patients.{all_patients}
use Rattle.evening.proofs.all_patients.Given as goal

abbrev pub invariant-loop-v : goal.invariant-loop-v
invariant-loop-v l = (l.v ≤ l.n) × (l.sum ≡ all_patients l.patients l.v)
