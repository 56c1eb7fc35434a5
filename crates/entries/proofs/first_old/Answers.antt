-- `entries::first_old` meets its contract: the array has a distance at every vertex that was read. Assumes nothing.
use mathlib.Core.Path.{◌≡◌, sym, ◌∙◌}
use mathlib.Core.Bool.{true}
use Prim.Native.Nat.{◌<◌}
use native.Mathlib.Omega.{arith}
use lib.ListN.{length-set}
use borrow.Author.Tests.{not-true, not-false, ltb-true}
use Rattle.journeys.specs.Counting.{none}
use Rattle.journeys.specs.Lists.{entry_ok}
use Rattle.journeys.proofs.Counting.{below_suc}
use Rattle.journeys.proofs.Tests.{and_both}
use Rattle.entries.proofs.Noting.{more-noted, fresh-is}
use Rattle.entries.proofs.first_old.Goals as goal

pub returns-then-not-is_new : goal.returns-then-not-is_new
returns-then-not-is_new c =
    let r = c.word_at-v in
    let L = c.loop-i in
    record {
      within = L.invariant.0;
      before = L.invariant.1;
      fails = λ _. sym (fresh-is c.args.list.now L.far L.i L.invariant.2 r.result r.ensures c.args.vertices c.requires.vertices_bound.0) ∙ sym c.is_new.ensures ∙ not-true c.is_new.result c.if-not-is_new.true-raw;
    }

pub loop-i-preserved : goal.loop-i-preserved
loop-i-preserved c =
    let r = c.word_at-v in
    let L = c.loop-i in
    let low : c.word_at-v.result < c.args.vertices = ltb-true _ _ (and_both _ _ (sym c.is_new.ensures ∙ not-false c.is_new.result c.if-not-is_new.false-raw)).0 in
    let good : entry_ok 12 c.args.vertices none c.args.list.now L.i ≡ true = sym (fresh-is c.args.list.now L.far L.i L.invariant.2 r.result r.ensures c.args.vertices c.requires.vertices_bound.0) ∙ sym c.is_new.ensures ∙ not-false c.is_new.result c.if-not-is_new.false-raw in (
      omega (arith, c.loop-i-test.true),
      λ k h. below_suc {P = λ k. entry_ok 12 c.args.vertices none c.args.list.now k ≡ true} L.i L.invariant.1 good k (omega arith),
      more-noted c.args.list.now L.far L.i L.invariant.2 r.result r.ensures (omega (arith, low, c.requires.vertices_bound.0)),
      length-set L.far r.result 0 ∙ L.invariant.3,
    )
