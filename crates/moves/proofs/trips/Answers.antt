-- `moves::trips` meets its contract: what is left of the scan gives the answer of the whole. Assumes nothing.
use mathlib.Core.Path.{refl, sym, ◌∙◌}
use Prim.Native.Nat.{◌/◌}
use lib.Dec.{eqb}
use lib.ListN.{length}
use native.Mathlib.Omega.{arith}
use borrow.Author.Tests.{eq-eqb, ne_eqb}
use Rattle.moves.proofs.Scanned.{left-start, left-good, left-bad, left-none}
use Rattle.moves.specs.Moved.{trip}
use Rattle.moves.proofs.trips.Goals as goal

pub loop-i-init : goal.loop-i-init
loop-i-init c = (omega arith, omega arith, left-start _ _ _)

pub returns-then-word_at-ne0 : goal.returns-then-word_at-ne0
unfolding trip
returns-then-word_at-ne0 c =
    let L = c.loop-i in
    let b = c.args.source.now in
    left-bad 11 (λ j. eqb (trip b j) 0) (length b / 20) L.i (omega arith) (omega arith) (ne_eqb _ 0 (λ e. c.if-word_at-ne0.true (c.word_at.ensures ∙ e))) L.invariant.2 c.refused.ensures.told

pub loop-i-preserved : goal.loop-i-preserved
unfolding trip
loop-i-preserved c =
    let L = c.loop-i in
    let b = c.args.source.now in
    (omega arith, omega arith, left-good 11 (λ j. eqb (trip b j) 0) (length b / 20) L.i (omega arith) (eq-eqb _ 0 (sym c.word_at.ensures ∙ c.if-word_at-ne0.false)) L.invariant.2)

pub returns : goal.returns
returns c =
    let L = c.loop-i in
    let b = c.args.source.now in
    left-none 11 (λ j. eqb (trip b j) 0) (length b / 20) L.i (omega arith) L.invariant.2 refl
