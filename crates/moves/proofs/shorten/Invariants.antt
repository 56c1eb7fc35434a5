use mathlib.Core.Path.{◌≡◌}
use Prim.Native.Nat.{◌/◌, ◌≤◌}
use lib.ListN.{length}
use Rattle.journeys.specs.Counting.{joined}
use Rattle.words.specs.Written.{written}
use Rattle.moves.specs.Moved.{common}
use Rattle.moves.proofs.shorten.Given as goal

abbrev pub invariant-loop-i : goal.invariant-loop-i
invariant-loop-i l =
    (l.i ≤ l.n) × (l.n ≡ length l.source / 20) × (length l.target ≡ length l.initial.target) × (l.target ≡ written l.initial.target 0 (joined (common 20 l.source) l.i))
