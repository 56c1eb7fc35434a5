use Prim.Native.Nat.{◌≤◌, ◌-◌}
use mathlib.Core.Path.{◌≡◌}
use lib.ListN.{length, take, drop}
use Rattle.naming.specs.Named.{leads}
use Rattle.naming.proofs.goes_on.Given as goal

abbrev pub invariant-loop-k : goal.invariant-loop-k
invariant-loop-k l = (l.k ≤ length l.name) × (length l.name ≤ length l.text - l.at) × (leads (take l.k l.name) (drop l.at l.text) ≡ leads l.name (drop l.at l.text))
