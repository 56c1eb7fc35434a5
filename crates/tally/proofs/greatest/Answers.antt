-- `tally::greatest` meets its contract: it is the greatest of the first i claims. Assumes nothing.
use mathlib.Core.Path.{refl, ap, ◌∙◌}
use Prim.Native.Nat.{ℕ, max}
use native.Mathlib.Omega.{arith}
use Rattle.tally.specs.Laid.{listed, greatest}
use Rattle.tally.proofs.Digits.{greatest-more}
use Rattle.tally.proofs.greatest.Goals as goal

pub loop-i-init : goal.loop-i-init
unfolding greatest
loop-i-init c = (omega arith, refl)

pub loop-i-preserved : goal.loop-i-preserved
loop-i-preserved c =
    let loop = c.loop-i in
    let claims = listed c.args.scratch.now in
    (omega arith, c.max-most.ensures ∙ ap (λ (x : ℕ). max x (claims loop.i)) loop.invariant.1 ∙ greatest-more claims loop.i)
