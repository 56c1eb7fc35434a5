use Prim.Native.Nat.{ℕ, ◌≤◌, ◌<◌, ◌-◌}
use mathlib.Core.Path.{◌≡◌}
use mathlib.Core.Bool.{true}
use Rattle.reread.specs.Read.{stops_here}
use Rattle.pairwise.specs.Asked.{good_by}
use Rattle.pairwise.proofs.first_bad.Given as goal

abbrev pub invariant-loop-i : goal.invariant-loop-i
invariant-loop-i g l = (l.i ≤ l.n) × ((j : ℕ) → j < l.i → good_by l.number (stops_here l.c l.stops l.trips l.text l.from) j ≡ true)
