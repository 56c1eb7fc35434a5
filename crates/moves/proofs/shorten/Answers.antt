-- `moves::shorten` meets its contract: the first i records are written. Assumes nothing.
use mathlib.Core.Path.{◌≡◌, refl, ap, ◌∙◌}
use Prim.Native.Nat.{ℕ, ◌+◌, ◌*◌, ◌/◌}
use lib.ListN.{length}
use native.Mathlib.Omega.{arith}
use Rattle.journeys.specs.Counting.{joined}
use Rattle.words.specs.Written.{written}
use Rattle.words.proofs.Written.{length-written}
use Rattle.moves.specs.Moved.{common, shortened}
use Rattle.moves.proofs.Rows.{common-long, rows_none, rows_next, rows_all}
use Rattle.moves.proofs.shorten.Goals as goal

pub loop-i-init : goal.loop-i-init
loop-i-init c = (omega arith, refl, refl, rows_none _ 16 _)

pub loop-i-preserved : goal.loop-i-preserved
loop-i-preserved c =
    let L = c.loop-i in
    let a = c.args in
    let one = c.copy_hop.ensures in
    let rows : c.copy_hop.new.target ≡ written a.target.now 0 (joined (common 20 a.source.now) (L.i + 1)) =
    one ∙ ap (λ d. written d (16 * L.i) (common 20 a.source.now L.i)) L.invariant.3
    ∙ rows_next (common 20 a.source.now) 16 a.target.now L.i (λ i l. common-long 20 a.source.now i (omega arith) (omega arith)) (omega (arith, c.requires)) in
    (omega arith, refl, ap length one ∙ length-written _ _ _ (omega (arith, L.invariant.2, c.requires, common-long 20 a.source.now L.i (omega arith) (omega arith))) ∙ L.invariant.2, rows)

pub returns : goal.returns
unfolding shortened
returns c =
    let L = c.loop-i in
    let a = c.args in
    let e : L.i ≡ length a.source.now / 20 = omega arith in
    L.invariant.3 ∙ ap (λ (k : ℕ). written a.target.now 0 (joined (common 20 a.source.now) k)) e
    ∙ rows_all (common 20 a.source.now) 16 a.target.now (length a.source.now / 20) (λ i l. common-long 20 a.source.now i (omega arith) l) c.requires
