-- `before`: the number before the answer leaves a vertex before v, and the one there does not. Assumes nothing.
use borrow.Author.Rules.{rules}
use mathlib.Core.Path.{refl}
use mathlib.Core.Logic.{⊎_elim}
use Prim.Native.Nat.{ℕ, ◌-◌, ◌<◌, ◌≤◌}
use native.Mathlib.Omega.{arith}
use Rattle.journeys.proofs.Tests.{le-or-lt}
use Rattle.listing.specs.Places.{total, from_of, below}
use Rattle.listing.proofs.PlaceLaws.{below-most}
use Rattle.stretches.proofs.Halving.{turn_low, turn-high}
use Rattle.stretches.proofs.before.Goals as goal

pub returns : goal.returns
returns c =
    let a = c.args in
    let r : ℕ = c.end_of.result in
    let e = c.end_of.ensures in
    let n : ℕ = total a.hop_size a.walks.now a.hops.now in
    let F : ℕ → ℕ = from_of a.hop_size a.walks.now a.hops.now in
    let up : (0 < r) → r ≤ below F a.v n = λ h. omega (arith, turn_low c.requires.right (r - 1) _ (omega (arith, e.within, c.requires.le_hop_size)) refl a.v (search (rules, e.before h))) in
    let down : (r < n) → below F a.v n ≤ r = λ h. let k : r < a.n = omega (arith, c.requires.le_hop_size) in turn-high c.requires.right r _ h refl a.v (search (rules, e.here k)) in
    let low : r ≤ below F a.v n = ⊎_elim (λ (h : r ≤ 0). let z : r ≤ below F a.v n = omega arith in z) up (le-or-lt r 0) in
    let high : below F a.v n ≤ r = ⊎_elim (λ (h : n ≤ r). let z : below F a.v n ≤ r = omega (arith, below-most F a.v n) in z) down (le-or-lt n r) in
    omega (arith, low, high)
