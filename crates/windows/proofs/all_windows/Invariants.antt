use mathlib.Core.Path.{◌≡◌}
use Prim.Native.Nat.{◌-◌, ◌*◌, ◌<◌}
use lib.ListN.{length}
use Rattle.sorting.specs.Sorted.{recs, sorted}
use Rattle.std.specs.Prelude.{None, IfSome, ◌^◌}
use Rattle.sieve.specs.Kept.{bound}
use Rattle.windows.specs.Gone.{lines_records, Gone}
use Rattle.windows.proofs.all_windows.Given as goal

abbrev pub invariant-loop-c : goal.invariant-loop-c
invariant-loop-c l =
    (length l.target ≡ 20 * l.room) × (length l.spare ≡ 20 * l.n) × Gone (sorted (lines_records l.c l.stops l.trips l.text l.from)) l.room (recs l.room l.target) l.run × IfSome l.run.lo (λ x. (x.high < 2 ^ 32) × (x.middle < 2 ^ 64) × (x.low < 2 ^ 64))

abbrev pub decreases-loop-c : goal.decreases-loop-c
decreases-loop-c l = bound None - bound l.run.lo
