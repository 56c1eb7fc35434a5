use mathlib.Core.Path.{◌≡◌}
use Prim.Native.Nat.{◌≤◌}
use lib.ListN.{length}
use Rattle.evening.specs.Tallied.{tallied, listed_patients}
use Rattle.evening.proofs.tally.Given as goal

abbrev pub invariant-loop-i : goal.invariant-loop-i
invariant-loop-i l =
    (l.i ≤ l.n) × (l.report ≡ tallied l.initial.report l.list l.i) × (length l.report ≡ length l.initial.report) × (l.sum ≡ listed_patients l.patients l.list l.i)
