use mathlib.Core.Path.{◌≡◌}
use lib.ListN.{length}
use Rattle.marking.specs.Setting.{tables, query, mode}
use Rattle.marking.specs.Pends.{state}
use Rattle.marking.proofs.Moving.{Asking}
use Rattle.marking.proofs.alight.Given as goal

abbrev pub invariant-loop-i : goal.invariant-loop-i
invariant-loop-i l =
    Asking (tables l.vertices l.walks l.hops l.a) (query l.a) (mode l.hops l.a) l.set l.x l.d l.initial.i l.end (state l.initial.q l.initial.table l.initial.marks l.initial.stack) (state l.q l.table l.marks l.stack) l.i
    × (length l.table ≡ length l.initial.table)
    × (length l.marks ≡ length l.initial.marks)
    × (length l.stack ≡ length l.initial.stack)
