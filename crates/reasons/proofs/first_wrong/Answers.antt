-- `reasons::first_wrong` meets its contract: the array lists the entries that were read. Assumes nothing.
use mathlib.Core.Path.{◌≡◌, refl, sym, ◌∙◌}
use mathlib.Core.Bool.{true}
use Prim.Native.Nat.{◌<◌}
use native.Mathlib.Omega.{arith}
use lib.ListN.{length-set}
use borrow.Author.Tests.{not-true, not-false}
use Rattle.journeys.proofs.Counting.{below_suc}
use Rattle.reasons.specs.Rows.{net_of, entry_good}
use Rattle.reasons.proofs.OnePass.{good-words, good-low, good-by}
use Rattle.reasons.proofs.Listing.{first-figures, more-figures, more_given}
use Rattle.reasons.proofs.first_wrong.Goals as goal

pub loop-i-init : goal.loop-i-init
loop-i-init c =
    let F = first-figures c.args.list.now c.args.far.now c.requires.far_value in
    (omega arith, λ k h. absurd (omega arith), F.0, F.1, refl)

pub returns-then-not-entry_ok : goal.returns-then-not-entry_ok
returns-then-not-entry_ok c =
    let L = c.loop-i in
    let a = c.args in
    let same = good-by a.walks.now a.hops.now a.all a.ends c.requires.led a.list.now L.far a.vertices a.all.allowed.0 c.requires.sound.2 c.requires.sound.0.allowed L.i L.invariant.2 L.invariant.3 L.invariant.1 c.word_at-v.result c.word_at-d.result c.word_at.result c.word_at-v.ensures c.word_at-d.ensures c.word_at.ensures in record {
      first = record { within = L.invariant.0; before = L.invariant.1; fails = λ _. sym same ∙ sym c.entry_ok.ensures ∙ not-true c.entry_ok.result c.if-not-entry_ok.true-raw };
      figures = (L.invariant.2, L.invariant.3);
    }

pub bounds-far-v : goal.bounds-far-v
bounds-far-v c =
    omega (arith, good-low _ _ _ _ _ _ (sym c.entry_ok.ensures ∙ not-false c.entry_ok.result c.if-not-entry_ok.false-raw), c.requires.sound.2, c.loop-i.invariant.2.long)

pub loop-i-preserved : goal.loop-i-preserved
loop-i-preserved c =
    let L = c.loop-i in
    let a = c.args in
    let l = a.list.now in
    let G = net_of a.vertices a.walks.now a.hops.now a.all a.ends in
    let same = good-by a.walks.now a.hops.now a.all a.ends c.requires.led l L.far a.vertices a.all.allowed.0 c.requires.sound.2 c.requires.sound.0.allowed L.i L.invariant.2 L.invariant.3 L.invariant.1 c.word_at-v.result c.word_at-d.result c.word_at.result c.word_at-v.ensures c.word_at-d.ensures c.word_at.ensures in
    let good : entry_good G a.all.allowed.0 l L.i ≡ true = sym same ∙ sym c.entry_ok.ensures ∙ not-false c.entry_ok.result c.if-not-entry_ok.false-raw in
    let words = good-words G a.all.allowed.0 l L.i good in
    let low : c.word_at-v.result < 65536 = omega (arith, c.word_at-v.ensures, words.0, c.requires.sound.2) in (
      omega (arith, c.loop-i-test.true),
      λ k h. below_suc {P = λ k. entry_good G a.all.allowed.0 l k ≡ true} L.i L.invariant.1 good k (omega arith),
      more-figures l L.far L.i L.invariant.2 L.invariant.3 c.word_at-v.result c.word_at-d.result c.word_at-v.ensures c.word_at-d.ensures low (omega (arith, c.word_at-d.ensures, words.2, c.requires.sound.0.allowed)),
      more_given l L.far L.i L.invariant.2 L.invariant.3 c.word_at-v.result c.word_at-d.result c.word_at-v.ensures c.word_at-d.ensures low words.1,
      length-set L.far c.word_at-v.result c.word_at-d.result ∙ L.invariant.4,
    )
