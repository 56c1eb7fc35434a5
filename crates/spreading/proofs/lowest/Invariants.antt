use mathlib.Core.Path.{◌≡◌}
use Prim.Native.Nat.{ℕ, ◌≤◌, ◌<◌}
use Rattle.boarding.specs.Rides.{trip_at}
use Rattle.arranging.specs.Keys.{word_at}
use Rattle.spreading.proofs.lowest.Given as goal

abbrev pub invariant-loop-p : goal.invariant-loop-p
invariant-loop-p l =
    (l.first ≤ l.p) × (l.p ≤ l.q) × ((g : ℕ) → l.p ≤ g → g < l.q → trip_at l.a.size l.hops (word_at l.scratch g) ≡ l.trip)
