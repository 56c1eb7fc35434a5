use Prim.Native.Nat.{◌<◌, ◌-◌}
use lib.ListN.{length}
use Rattle.idtable.specs.Table.{Way}
use Rattle.idtable.proofs.probe.Given as goal

abbrev pub invariant-loop-turn : goal.invariant-loop-turn
invariant-loop-turn l = (l.k < length l.table) × Way l.text (length l.table) l.table l.name (length l.table - l._turn) l.k
