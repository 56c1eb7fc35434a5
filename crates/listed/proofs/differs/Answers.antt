-- `differs`: one record more; if it leaves v, its number stands in its place.
use mathlib.Core.Path.{◌≡◌, sym, ◌∙◌}
use Prim.Native.Nat.{◌+◌, ◌<◌}
use native.Mathlib.Omega.{arith}
use Rattle.listing.specs.Places.{total, from_of}
use Rattle.listed.proofs.Judging.{Passed, passed_none, passed_here, passed-other, passed-wrong, at_low}
use Rattle.listed.proofs.differs.Goals as goal
use Rattle.listed.proofs.differs.Goals.{In-loop-x, Then-from_of-v, then-from_of-v+else-word_at-x, else-from_of-v}

in-range : (c : In-loop-x)
    → let a = c.args in c.loop-x.x < total a.hop_size a.walks.now a.hops.now
in-range c = omega (arith, c.requires.fits.long, c.loop-x-test.true)

leaves : (c : Then-from_of-v)
    → let a = c.args in from_of a.hop_size a.walks.now a.hops.now c.loop-x.x ≡ a.v
leaves c = sym c.from_of.ensures ∙ c.if-from_of-v.true

at_in : (c : Then-from_of-v) → c.loop-x.at < c.args.end
at_in c =
    at_low c.requires.stretch.begins c.requires.stretch.ends c.loop-x.invariant.1 (omega (arith, c.requires.fits.long, c.loop-x-test.true)) (leaves c)

pub loop-x-init : goal.loop-x-init
loop-x-init c = (omega arith, passed_none c.requires.stretch.begins c.requires.stretch.ends)

pub overflow_mul-at : goal.overflow_mul-at
overflow_mul-at c = record { fits = omega (arith, at_in (goal.at.overflow_mul-at c).Then-from_of-v, c.requires.fits.few, c.requires.fits.within) }

pub word_at-requires : goal.word_at-requires
word_at-requires c = omega (arith, at_in (goal.at.word_at-requires c).Then-from_of-v, c.requires.fits.long, c.requires.fits.within)

pub returns-then-word_at-x : goal.returns-then-word_at-x
returns-then-word_at-x c =
    passed-wrong c.requires.stretch.begins c.requires.stretch.ends c.loop-x.invariant.1 (in-range (goal.at.returns-then-word_at-x c).In-loop-x) (leaves (goal.at.returns-then-word_at-x c).Then-from_of-v) (λ z. c.if-word_at-x.true (c.word_at.ensures ∙ z))

pub overflow_add-at : goal.overflow_add-at
overflow_add-at c =
    record { fits = omega (arith, at_in (goal.at.overflow_add-at c).Then-from_of-v, c.requires.fits.few, c.requires.fits.within) }

pub loop-x-preserved : goal.loop-x-preserved
loop-x-preserved c =
    let a = c.args in
    let step : Passed (from_of a.hop_size a.walks.now a.hops.now) (total a.hop_size a.walks.now a.hops.now) a.v a.first (c.loop-x.x + 1) c.if-from_of-v.at a.list.now =
    elim c.if-from_of-v.branch [
      | then-from_of-v+else-word_at-x w ↦ rw w.at-is (passed_here c.requires.stretch.begins c.requires.stretch.ends c.loop-x.invariant.1 (sym c.from_of.ensures ∙ w.if-from_of-v.true) (sym w.word_at.ensures ∙ w.if-word_at-x.false))
      | else-from_of-v w ↦ rw w.at-is (passed-other c.requires.stretch.begins c.requires.stretch.ends c.loop-x.invariant.1 (λ z. w.if-from_of-v.false (c.from_of.ensures ∙ z)))
    ] in
    (omega (arith, c.requires.fits.long, c.loop-x-test.true), step)
