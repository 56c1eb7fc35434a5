-- `tally::drain` meets its contract: one is taken off for each of the first i numbers, and the list stays as it was. Assumes nothing.
use mathlib.Core.Path.{◌≡◌, refl, sym, ap, ◌∙◌}
use mathlib.Core.List.{List}
use Prim.Native.Nat.{ℕ, ◌+◌}
use native.Mathlib.Omega.{arith}
use lib.ListN.{get_or}
use Rattle.journeys.proofs.Tests.{never, cond-true, cond-false}
use Rattle.tally.specs.Laid.{listed, times, lowered, Placed}
use Rattle.tally.proofs.Groups.{laid_same, placed-kept, lowered-outside, drained-one, not-enough}
use Rattle.tally.proofs.drain.Goals as goal

pub loop-i-init : goal.loop-i-init
unfolding Rattle.journeys.specs.Counting.count
loop-i-init c = (omega arith, omega arith, λ k a b. refl, λ groups words claims taken laid inside. laid_same (λ k l. omega arith) laid)

pub returns-then-not-take : goal.returns-then-not-take
returns-then-not-take c =
    let loop = c.loop-i in
    let first = c.args.scratch.now in
    let own = loop.invariant.2 (1984 + loop.i) (omega arith) (omega arith) in
    let none = c.if-not-take.true in
    let e : c.take.new.scratch ≡ loop.scratch = c.take.ensures.scratch_after ∙ cond-false _ _ none in record {
      drained = λ groups words claims taken laid inside. (
        λ q. never q refl,
        λ enough. absurd (not-enough taken first loop.i (listed loop.scratch loop.i) (loop.invariant.3 groups words claims taken laid inside) own (rw own (inside loop.i (omega arith)))
            c.args.count (omega arith) (sym none ∙ c.take.ensures.value) enough),
      );
      same = λ k a b. ap (λ (l : List ℕ). get_or l k 0) e ∙ loop.invariant.2 k a b;
    }

pub loop-i-preserved : goal.loop-i-preserved
loop-i-preserved c =
    let loop = c.loop-i in
    let first = c.args.scratch.now in
    let k = listed loop.scratch loop.i in
    let own : k ≡ listed first loop.i = loop.invariant.2 (1984 + loop.i) (omega arith) (omega arith) in
    let placed : Placed loop.scratch k = rw own (placed-kept {s = first} loop.invariant.2 (c.requires.by_index loop.i (omega arith))) in
    let some = c.if-not-take.false in
    let e : c.take.new.scratch ≡ lowered loop.scratch k = c.take.ensures.scratch_after ∙ cond-true _ _ some in (
      omega arith,
      omega (arith, c.take.auto),
      λ j a b. ap (λ (l : List ℕ). get_or l j 0) e ∙ lowered-outside placed j a b ∙ loop.invariant.2 j a b,
      λ groups words claims taken laid inside.
          rw e
          (drained-one taken first loop.i k (loop.invariant.3 groups words claims taken laid inside) own (rw own (inside loop.i (omega arith))) (omega arith)
          (sym some ∙ c.take.ensures.value)),
    )

pub returns : goal.returns
returns c =
    let loop = c.loop-i in
    let a = c.args in
    let e : loop.i ≡ a.count = omega arith in record {
      drained = λ groups words claims taken laid inside. (
        λ q. laid_same (λ k l. ap (λ (n : ℕ). taken k + times a.scratch.now n k) e) (loop.invariant.3 groups words claims taken laid inside),
        λ enough. refl,
      );
      same = loop.invariant.2;
    }
