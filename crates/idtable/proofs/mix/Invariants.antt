use Prim.Native.Nat.{◌≤◌, ◌<◌}
use mathlib.Core.Path.{◌≡◌}
use lib.ListN.{length, drop}
use Rattle.idtable.specs.Table.{mixed}
use Rattle.idtable.proofs.mix.Given as goal

abbrev pub invariant-loop-b : goal.invariant-loop-b
invariant-loop-b l = (l.b-index ≤ length l.name) × (l.h < 4294967296) × (mixed l.h (drop l.b-index l.name) ≡ mixed 1 l.name)
