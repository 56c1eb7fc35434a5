use mathlib.Core.Path.{◌≡◌}
use Prim.Native.Nat.{◌≤◌}
use lib.ListN.{length}
use Rattle.marking.specs.Setting.{tables, query, mode}
use Rattle.marking.specs.Pends.{state}
use Rattle.spreading.specs.Spreads.{StaysFrom}
use Rattle.spreading.proofs.stay_from.Given as goal

abbrev pub invariant-loop-g : goal.invariant-loop-g
invariant-loop-g l =
    (l.low ≤ l.g)
    × (l.g ≤ l.q)
    × StaysFrom (tables l.vertices l.walks l.hops l.a) (query l.a) (mode l.hops l.a) l.set l.scratch l.low l.g l.j (state l.initial.r l.initial.table l.initial.marks l.initial.stack) (state l.r l.table l.marks l.stack)
    × (length l.table ≡ length l.initial.table)
    × (length l.marks ≡ length l.initial.marks)
    × (length l.stack ≡ length l.initial.stack)
