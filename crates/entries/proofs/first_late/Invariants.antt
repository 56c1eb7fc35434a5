use mathlib.Core.Path.{◌≡◌}
use mathlib.Core.Bool.{true}
use Prim.Native.Nat.{ℕ, ◌/◌, ◌≤◌, ◌<◌}
use lib.ListN.{length}
use Rattle.journeys.specs.VendorLists.{in_time}
use Rattle.entries.proofs.first_late.Given as goal

abbrev pub invariant-loop-i : goal.invariant-loop-i
invariant-loop-i l = (l.i ≤ length l.list / 12) × ((k : ℕ) → k < l.i → in_time l.most l.list k ≡ true)
