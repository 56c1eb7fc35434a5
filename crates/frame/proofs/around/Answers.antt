-- `frame::around` meets its contract: before the entry i stands the frame of those before it. Assumes nothing.
use mathlib.Core.Path.{◌≡◌, sym, ap, ◌∙◌}
use Prim.Native.Nat.{ℕ, suc, ◌+◌, ◌-◌}
use native.Mathlib.Omega.{arith}
use Rattle.journeys.specs.Lists.{vertex_in}
use Rattle.frame.specs.Frames.{bounds_to}
use Rattle.frame.specs.Floats.{point_at, widened_by, frame_from}
use Rattle.frame.proofs.Widening.{first-point, one_more}
use Rattle.frame.proofs.around.Goals as goal

pub loop-i-init : goal.loop-i-init
loop-i-init c =
    (omega arith, omega (arith, c.requires.nonzero), first-point c.args.list.now c.args.coordinates.now c.listed-first.ensures)

pub loop-i-preserved : goal.loop-i-preserved
loop-i-preserved c =
    let l = c.args.list.now in
    let t = c.args.coordinates.now in
    let L = c.loop-i in
    let e : suc (L.i - 1) ≡ L.i = omega (arith, L.invariant.0) in
    let g : suc (L.i - 1) ≡ L.i + 1 - 1 = omega (arith, L.invariant.0) in (
      omega arith,
      omega (arith, c.loop-i-test.true),
      c.widened-f.ensures
          ∙ ap (λ f. widened_by f c.listed-p.result) L.invariant.2
          ∙ ap (widened_by (frame_from (bounds_to l t (L.i - 1)))) (c.listed-p.ensures ∙ ap (λ (k : ℕ). point_at t (vertex_in 8 l k)) (sym e))
          ∙ one_more l t (L.i - 1)
          ∙ ap (λ (k : ℕ). frame_from (bounds_to l t k)) g,
    )
