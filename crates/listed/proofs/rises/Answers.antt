-- `rises`: one number more that rises and leaves v.
use mathlib.Core.Path.{sym, ◌∙◌}
use Prim.Native.Nat.{◌<◌}
use native.Mathlib.Omega.{arith}
use Rattle.listing.specs.Places.{total}
use Rattle.listed.proofs.Judging.{rising-more}
use Rattle.listed.proofs.rises.Goals as goal
use Rattle.listed.proofs.rises.Goals.{Else-n-x}

in-range : (c : Else-n-x)
    → let a = c.args in c.word_at-x.result < total a.hop_size a.walks.now a.hops.now
in-range c = omega (arith, c.if-n-x.false, c.requires.fits.long)

pub loop-i-preserved : goal.loop-i-preserved
loop-i-preserved c =
    let i = c.loop-i.invariant in
    (omega (arith, i.0), omega (arith, c.loop-i-test.true), rising-more _ _ _ _ _ _ _ _ i.2 c.word_at-x.ensures c.if-x-low.false (in-range (goal.at.loop-i-preserved c).Else-n-x) (sym c.from_of.ensures ∙ c.if-from_of-v.false))
