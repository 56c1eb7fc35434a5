-- `entries::first_late` meets its contract: it stops at the first distance above D. Assumes nothing.
use mathlib.Core.Path.{◌≡◌}
use mathlib.Core.Bool.{true}
use native.Mathlib.Omega.{arith}
use borrow.Author.Tests.{le-leb, lt-leb}
use Rattle.journeys.specs.Lists.{distance_at}
use Rattle.journeys.specs.VendorLists.{in_time}
use Rattle.journeys.proofs.Counting.{below_suc}
use Rattle.entries.proofs.first_late.Goals as goal

pub returns-then-most-word_at : goal.returns-then-most-word_at
unfolding in_time
returns-then-most-word_at c =
    let L = c.loop-i in
    record { within = L.invariant.0; before = L.invariant.1; fails = λ _. lt-leb (distance_at 12 c.args.list.now L.i) c.args.most (omega (arith, c.if-most-word_at.true, c.word_at.ensures)) }

pub loop-i-preserved : goal.loop-i-preserved
unfolding in_time
loop-i-preserved c =
    let L = c.loop-i in
    let a = c.args in
    let good : in_time a.most a.list.now L.i ≡ true = le-leb (distance_at 12 a.list.now L.i) a.most (omega (arith, c.if-most-word_at.false, c.word_at.ensures)) in
    (omega (arith, c.loop-i-test.true), λ k h. below_suc {P = λ k. in_time a.most a.list.now k ≡ true} L.i L.invariant.1 good k (omega arith))
