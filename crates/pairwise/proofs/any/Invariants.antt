use Prim.Native.Nat.{◌≤◌, ◌-◌}
use mathlib.Core.Path.{◌≡◌}
use mathlib.Core.Bool.{false}
use Rattle.feed.specs.Trips.{stop, some}
use Rattle.reread.specs.Read.{stops_here}
use Rattle.pairwise.specs.Asked.{asked}
use Rattle.pairwise.proofs.any.Given as goal

abbrev pub invariant-loop-k : goal.invariant-loop-k
invariant-loop-k l = (l.k ≤ l.m) × (some (λ j. asked l.question (stop (stops_here l.c l.stops l.trips l.text l.from) j)) l.k ≡ false)
