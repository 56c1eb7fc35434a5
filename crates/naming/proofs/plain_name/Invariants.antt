use Prim.Native.Nat.{◌≤◌}
use mathlib.Core.Path.{◌≡◌}
use lib.ListN.{length, drop}
use Rattle.naming.specs.Named.{above}
use Rattle.naming.proofs.plain_name.Given as goal

abbrev pub invariant-loop-b : goal.invariant-loop-b
invariant-loop-b l = (l.b-index ≤ length l.name) × (above (drop l.b-index l.name) ≡ above l.name)
