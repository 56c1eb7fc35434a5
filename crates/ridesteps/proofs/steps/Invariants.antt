use mathlib.Core.Path.{◌≡◌}
use Prim.Native.Nat.{◌-◌, ◌≤◌}
use lib.ListN.{length}
use Rattle.marking.specs.Setting.{tables, query, mode}
use Rattle.marking.specs.Pends.{state}
use Rattle.ridesteps.proofs.Riding.{Rides}
use Rattle.ridesteps.proofs.steps.Given as goal

abbrev pub invariant-loop-n : goal.invariant-loop-n
invariant-loop-n l =
    Rides (tables l.vertices l.walks l.hops l.a) (query l.a) (mode l.hops l.a) (length l.initial.settled) l.n l.set (state l.p l.table l.marks l.stack) l.settled × (l.n ≤ l.limit)
    × (length l.set ≡ length l.initial.set) × (length l.table ≡ length l.initial.table) × (length l.marks ≡ length l.initial.marks) × (length l.stack ≡ length l.initial.stack) × (length l.settled ≡ length l.initial.settled)
