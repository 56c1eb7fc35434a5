use mathlib.Core.Path.{◌≡◌}
use Prim.Native.Nat.{◌≤◌}
use Rattle.tally.specs.Laid.{listed, greatest}
use Rattle.tally.proofs.greatest.Given as goal

abbrev pub invariant-loop-i : goal.invariant-loop-i
invariant-loop-i l = (l.i ≤ 64) × (l.most ≡ greatest (listed l.scratch) l.i)
