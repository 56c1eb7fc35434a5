use mathlib.Core.Path.{◌≡◌}
use Prim.Native.Nat.{◌≤◌}
use lib.ListN.{length}
use Rattle.marking.specs.Setting.{tables, query, mode}
use Rattle.offering.specs.Offers.{Passes}
use Rattle.offering.proofs.pass_walks.Given as goal

abbrev pub invariant-loop-i : goal.invariant-loop-i
invariant-loop-i l =
    (l.initial.i ≤ l.i)
    × (l.i ≤ l.end)
    × Passes (tables l.vertices l.walks l.hops l.a) (query l.a) (mode l.hops l.a) l.set l.marks l.x l.d 0 l.i l.initial.q l.q l.initial.table l.table
    × (length l.table ≡ length l.initial.table)
