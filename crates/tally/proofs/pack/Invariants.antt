use mathlib.Core.Path.{◌≡◌}
use Prim.Native.Nat.{ℕ, ◌+◌, ◌*◌, ◌≤◌, ◌<◌}
use lib.ListN.{length, get_or}
use Rattle.tally.specs.Laid.{packed, listed, Same}
use Rattle.tally.proofs.pack.Given as goal

abbrev pub invariant-loop-w : goal.invariant-loop-w
invariant-loop-w l =
    (l.w ≤ 16 * l.size)
    × (length l.scratch ≡ 2048)
    × ((v : ℕ) → v < l.w → get_or l.scratch (l.at + v) 0 ≡ packed (listed l.initial.scratch) l.size v)
    × Same 0 l.at l.initial.scratch l.scratch
    × Same 1856 2048 l.initial.scratch l.scratch
