use mathlib.Core.Path.{◌≡◌}
use mathlib.Core.Bool.{true}
use Prim.Native.Nat.{ℕ, ◌≤◌, ◌<◌}
use Rattle.passing.specs.Row.{passes}
use Rattle.entries.specs.Noted.{heard}
use Rattle.reasons.specs.Rows.{net_of, fair_by}
use Rattle.reasons.proofs.first_unfair.Given as goal

abbrev pub invariant-loop-r : goal.invariant-loop-r
invariant-loop-r l = (l.r ≤ passes l.all) × ((k : ℕ) → k < l.r → fair_by (net_of 65536 l.walks l.hops l.all l.ends) l.most (heard l.far) k ≡ true)
