-- `moves::lengthen` meets its contract: the first i records are written, each with the trip 0. Assumes nothing.
use mathlib.Core.Path.{◌≡◌, refl, ap, ◌∙◌}
use mathlib.Core.List.{List}
use Prim.Native.Nat.{ℕ, ◌+◌, ◌*◌, ◌/◌, ◌≤◌}
use lib.ListN.{length}
use native.Mathlib.Omega.{arith}
use Rattle.journeys.specs.Counting.{joined}
use Rattle.journeys.specs.Bytes.{word}
use Rattle.words.specs.Written.{written}
use Rattle.words.proofs.Written.{length-written, written_next}
use Rattle.moves.specs.Moved.{common, lengthened}
use Rattle.moves.proofs.Rows.{common-long, row-long, rows_none, rows_next, rows_all}
use Rattle.moves.proofs.lengthen.Invariants.{row}
use Rattle.moves.proofs.lengthen.Goals as goal

pub loop-i-init : goal.loop-i-init
loop-i-init c = (omega arith, refl, refl, rows_none _ 20 _)

pub loop-i-preserved : goal.loop-i-preserved
loop-i-preserved c =
    let L = c.loop-i in
    let b = c.args.source.now in
    let t = c.args.target.now in
    let sixteen = common-long 16 b L.i (omega arith) (omega arith) in
    let fits : 20 * L.i + length (common 16 b L.i) ≤ length L.target = omega (arith, L.invariant.2, c.requires) in
    let at : 20 * L.i + 16 ≡ 20 * L.i + length (common 16 b L.i) = omega arith in
    let one =
    c.put_word.ensures
    ∙ ap (λ (d : List ℕ). written d (20 * L.i + 16) (word 0)) c.copy_hop.ensures
    ∙ ap (λ (k : ℕ). written (written L.target (20 * L.i) (common 16 b L.i)) k (word 0)) at
    ∙ written_next L.target (20 * L.i) (common 16 b L.i) fits (word 0) in
    let rows =
    one
    ∙ ap (λ (d : List ℕ). written d (20 * L.i) (row b L.i)) L.invariant.3
    ∙ rows_next (row b) 20 t L.i (λ i l. row-long b i (omega arith)) (omega (arith, c.requires)) in
    (omega arith, refl, ap length one ∙ length-written L.target (20 * L.i) (row b L.i) (omega (arith, L.invariant.2, c.requires, row-long b L.i (omega arith))) ∙ L.invariant.2, rows)

pub returns : goal.returns
unfolding lengthened
returns c =
    let L = c.loop-i in
    let b = c.args.source.now in
    let t = c.args.target.now in
    let e : L.i ≡ length b / 16 = omega arith in
    L.invariant.3
    ∙ ap (λ (k : ℕ). written t 0 (joined (row b) k)) e
    ∙ rows_all (row b) 20 t (length b / 16) (row-long b) c.requires
