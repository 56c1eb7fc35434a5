-- `surveys::next_block` meets its contract: the first j records have none in the blocks that are passed over. Assumes nothing.
use mathlib.Core.Path.{◌≡◌, subst}
use mathlib.Core.Logic.{◌⊎◌, inl, inr, ⊎_elim}
use Prim.Native.Nat.{ℕ, ◌+◌, ◌-◌, ◌/◌, ◌≤◌, ◌<◌}
use native.Mathlib.Omega.{arith}
use Rattle.journeys.proofs.Tests.{le-or-lt}
use Rattle.directed.specs.Directed.{near_of}
use Rattle.directed.proofs.Either.{few}
use Rattle.surveys.proofs.next_block.Invariants.{Far}
use Rattle.surveys.proofs.next_block.Goals as goal

far-more : (from : ℕ → ℕ) (first next r j u : ℕ) → u ≡ from j → r ≤ next → (u / 2048 < first) ⊎ (r ≤ u / 2048) → Far from first next j → Far from first r (j + 1)
far-more from first next r j u q less here far i l =
    ⊎_elim (λ (k : j ≤ i). let e : i ≡ j = omega arith in subst (λ (z : ℕ). (z / 2048 < first) ⊎ (r ≤ z / 2048)) (same e) here)
    (λ (k : i < j). ⊎_elim (λ (p : from i / 2048 < first). inl p) (λ (p : next ≤ from i / 2048). inr (omega arith)) (far i k))
    (le-or-lt j i)
  where
    same : i ≡ j → u ≡ from i
    same e = rw e q

pub overflow_add-n : goal.overflow_add-n
overflow_add-n c = record { fits = omega (arith, few c.requires.0, c.well_formed) }

pub loop-j-init : goal.loop-j-init
loop-j-init c = (omega arith, c.requires.1, omega arith, λ i l. absurd (let z : ⊥ = omega arith in z))

pub near_at-u-requires : goal.near_at-u-requires
near_at-u-requires c = (c.requires.0, c.loop-j-test.true)

pub loop-j-preserved : goal.loop-j-preserved
loop-j-preserved c =
    let a = c.args in
    let L = c.loop-j in
    let x = c.nearer-next.ensures in
    (omega arith, x.2 L.invariant.1, omega (arith, x.0, L.invariant.2), far-more (near_of a.walks.now a.hops.now a.list.now a.row) a.first L.next c.nearer-next.result L.j c.near_at-u.result c.near_at-u.ensures x.0 x.1 L.invariant.3)

pub returns : goal.returns
returns c =
    let L = c.loop-j in
    (L.invariant.1, L.invariant.2, λ j l. L.invariant.3 j (omega (arith, L.invariant.0, c.loop-j-test.false)))
