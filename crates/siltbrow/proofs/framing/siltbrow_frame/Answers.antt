-- `siltbrow_frame` meets its contract: the bytes of the answer are the definition's. Assumes nothing.
use mathlib.Core.Path.{refl, ap₂, ◌∙◌}
use native.Mathlib.Omega.{arith}
use Rattle.frame.specs.Frames.{frame_refusal, frame_bounds}
use Rattle.frame.specs.Floats.{answer_from}
use Rattle.frame.proofs.Bits.{all-kept, answer-numbers, answer-bytes}
use Rattle.siltbrow.proofs.framing.siltbrow_frame.Goals as goal

pub put-requires : goal.put-requires
put-requires c =
    let a = c.args in
    let v = a.vertices.now in
    let l = a.list.now in
    let t = a.coordinates.now in
    let e = c.in_numbers.ensures ∙ ap₂ answer_from c.frame_of-a.ensures.value c.frame_of-a.ensures.frame in record {
      out_len = c.if-answer-ne24.false;
      numbers = answer-numbers _ (frame_refusal v l t) (frame_bounds v l t) e (all-kept v l t (λ k. omega (arith, c.type_inv.coordinates k)));
    }

pub returns : goal.returns
returns c =
    let a = c.args in
    let v = a.vertices.now in
    let l = a.list.now in
    let t = a.coordinates.now in
    let e = c.in_numbers.ensures ∙ ap₂ answer_from c.frame_of-a.ensures.value c.frame_of-a.ensures.frame in
    record {
      untouched = λ n. absurd (n c.if-answer-ne24.false);
      answered = λ _. (refl, c.put.ensures ∙ answer-bytes _ (frame_refusal v l t) (frame_bounds v l t) e (all-kept v l t (λ k. omega (arith, c.type_inv.coordinates k))));
    }
