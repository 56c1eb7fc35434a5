use Prim.Native.Nat.{◌≤◌}
use mathlib.Core.Path.{◌≡◌}
use lib.ListN.{length, drop}
use Rattle.values.specs.Readings.{number_read, rest_read}
use Rattle.values.proofs.read_number.Given as goal

abbrev pub invariant-loop-b : goal.invariant-loop-b
invariant-loop-b l = (l.b-index ≤ length l.field) × (l.value ≤ l.most) × (rest_read l.most l.value (drop l.b-index l.field) ≡ number_read l.most l.field)
