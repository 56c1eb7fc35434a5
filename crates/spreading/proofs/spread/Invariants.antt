use mathlib.Core.Path.{◌≡◌}
use lib.ListN.{length}
use Rattle.marking.specs.Setting.{tables, query, mode}
use Rattle.marking.specs.Pends.{state, left}
use Rattle.spreading.proofs.Turning.{Turning}
use Rattle.spreading.proofs.spread.Given as goal

abbrev pub invariant-loop-q : goal.invariant-loop-q
invariant-loop-q l =
    Turning (tables l.vertices l.walks l.hops l.a) (query l.a) (mode l.hops l.a) l.set (state l.initial.q l.initial.table l.initial.marks l.initial.stack) (state l.q l.table l.marks l.stack)
    × (length l.table ≡ length l.initial.table)
    × (length l.marks ≡ length l.initial.marks)
    × (length l.stack ≡ length l.initial.stack)

abbrev pub decreases-loop-q : goal.decreases-loop-q
decreases-loop-q l = left (tables l.vertices l.walks l.hops l.a) (state l.q l.table l.marks l.stack)
