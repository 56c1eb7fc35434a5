use Prim.Native.Nat.{◌≤◌, ◌-◌}
use mathlib.Core.Path.{◌≡◌}
use mathlib.Core.Bool.{false}
use Rattle.reread.specs.Read.{stops_here}
use Rattle.feed.specs.Trips.{some, too_soon}
use Rattle.pairwise.proofs.any_late.Given as goal

abbrev pub invariant-loop-p : goal.invariant-loop-p
invariant-loop-p l = (l.p ≤ l.n) × (some (too_soon (stops_here l.c l.stops l.trips l.text l.from) l.i) l.p ≡ false)
