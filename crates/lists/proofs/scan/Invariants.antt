use mathlib.Core.Path.{◌≡◌}
use mathlib.Core.Bool.{true}
use Prim.Native.Nat.{ℕ, ◌+◌, ◌*◌, ◌≤◌, ◌<◌}
use lib.ListN.{length}
use Rattle.marks.specs.Marks.{bit}
use Rattle.journeys.specs.Lists.{named}
use Rattle.lists.specs.Passes.{half_ok}
use Rattle.lists.proofs.scan.Given as goal

abbrev pub invariant-loop-i : goal.invariant-loop-i
invariant-loop-i l =
    (l.i ≤ l.end)
    × (length l.marks ≡ length l.initial.marks)
    × ((k : ℕ) → k < l.i → half_ok l.size l.vertices l.most l.list l.half k ≡ true)
    × ((b : ℕ) → b < 32768 → bit l.marks b ≡ named l.size l.list l.i (32768 * l.half + b))
