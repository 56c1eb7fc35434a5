use mathlib.Core.Path.{◌≡◌}
use mathlib.Core.Bool.{true}
use Prim.Native.Nat.{ℕ, ◌/◌, ◌≤◌, ◌<◌}
use lib.ListN.{length}
use Rattle.journeys.specs.VendorLists.{far_before}
use Rattle.reasons.specs.Rows.{net_of, Figures, Gives, entry_good}
use Rattle.reasons.proofs.first_wrong.Given as goal

abbrev pub invariant-loop-i : goal.invariant-loop-i
invariant-loop-i l =
    (l.i ≤ length l.list / 12)
    × ((k : ℕ) → k < l.i → entry_good (net_of l.vertices l.walks l.hops l.all l.ends) l.all.allowed.0 l.list k ≡ true)
    × Figures l.far
    × Gives l.far (far_before l.list l.i)
    × (length l.far ≡ length l.initial.far)
