-- `moves::forward` meets its contract: the lengths are judged before anything is written. Assumes nothing.
use mathlib.Core.Path.{sym, ◌∙◌}
use Rattle.words.proofs.Chains.{kept, refuses, passes}
use Rattle.moves.specs.Moved.{forward_refusal}
use Rattle.moves.proofs.GoodLengths.{target-long}
use Rattle.moves.proofs.Left.{refused-leaves, done-leaves}
use Rattle.moves.proofs.forward.Goals as goal

pub returns-in_err-lengths : goal.returns-in_err-lengths
returns-in_err-lengths c =
    let s = c.args in record {
      result_value = kept _ c.in_err-lengths.was c.from_residual.ensures ∙ c.lengths.ensures;
      target_after = sym (refused-leaves (forward_refusal s.source.now s.target.now) _ _ (refuses c.in_err-lengths.was c.lengths.ensures));
    }

pub lengthen-requires : goal.lengthen-requires
lengthen-requires c =
    let s = c.args in
    target-long 16 20 s.source.now s.target.now (passes c.in_ok-lengths.was c.lengths.ensures)

pub returns : goal.returns
returns c =
    let s = c.args in record {
      result_value = c.in_ok-lengths.ensures;
      target_after = c.lengthen.ensures ∙ sym (done-leaves (forward_refusal s.source.now s.target.now) _ _ (passes c.in_ok-lengths.was c.lengths.ensures));
    }
