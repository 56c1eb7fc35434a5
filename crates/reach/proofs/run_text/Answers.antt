use mathlib.Core.Path.{sym, ◌∙◌}
use Prim.Native.Nat.{ℕ}
use native.Mathlib.Omega.{arith}
use lib.ListN.{length-replicate}
use lib.Seq.{length-take-le}
use Rattle.reach.proofs.Texts.{count-is, few, ran-text}
use Rattle.reach.proofs.run_text.Goals as goal

pub slice_bounds-settled-end : goal.slice_bounds-settled-end
slice_bounds-settled-end c =
    let x = c.run-a in
    omega (arith, few _ _ _ _ _ _ x.ensures.allowed, x.auto.settled, length-replicate {A = ℕ} 4096 0)

pub slice_bounds-parts-end : goal.slice_bounds-parts-end
slice_bounds-parts-end c =
    let x = c.run-a in
    sym (length-take-le _ _ (omega (arith, few _ _ _ _ _ _ x.ensures.allowed, x.auto.settled, length-replicate {A = ℕ} 4096 0)))

pub returns : goal.returns
returns c =
    let x = c.run-a in
    let p = c.parts-p in
    let t = c.report in record {
      run_told = ran-text _ _ _ _ _ _ _ x.result p.result c.unwrap_or.result (c.unwrap_or.ensures ∙ count-is p.result) x.ensures.allowed p.ensures _ c.requires (x.auto.held ∙ length-replicate {A = ℕ} 8192 0) (x.auto.settled ∙ length-replicate {A = ℕ} 4096 0) (p.auto.parts ∙ length-replicate {A = ℕ} 12312 0)
          _ _ t.ensures.out_after t.ensures.value;
      prefix_len = t.ensures.prefix_len;
    }
