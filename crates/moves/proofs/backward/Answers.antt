-- `moves::backward` meets its contract: lengths and trips are judged before anything is written. Assumes nothing.
use mathlib.Core.Path.{sym, ◌∙◌}
use Rattle.words.proofs.Chains.{kept, refuses, passes, goes-on, stops}
use Rattle.moves.specs.Moved.{backward_refusal}
use Rattle.moves.proofs.GoodLengths.{source-few, target-long}
use Rattle.moves.proofs.Left.{refused-leaves, done-leaves}
use Rattle.moves.proofs.backward.Goals as goal

pub returns-in_err-lengths : goal.returns-in_err-lengths
unfolding backward_refusal
returns-in_err-lengths c =
    let s = c.args in
    let was = kept _ c.in_err-lengths.was c.from_residual.ensures in
    let told = stops _ _ c.in_err-lengths.was c.lengths.ensures c.from_residual.ensures in record {
      result_value = told;
      target_after = sym (refused-leaves (backward_refusal s.source.now s.target.now) _ _ (refuses c.in_err-lengths.was (sym was ∙ told)));
    }

pub trips-requires : goal.trips-requires
trips-requires c =
    let s = c.args in
    source-few 20 16 s.source.now s.target.now (passes c.in_ok-lengths.was c.lengths.ensures)

pub returns-in_err-trips : goal.returns-in_err-trips
unfolding backward_refusal
returns-in_err-trips c =
    let s = c.args in
    let told = goes-on c.in_ok-lengths.was c.lengths.ensures c.trips.ensures in record {
      result_value = kept _ c.in_err-trips.was c.from_residual-in_err-trips.ensures ∙ told;
      target_after = sym (refused-leaves (backward_refusal s.source.now s.target.now) _ _ (refuses c.in_err-trips.was told));
    }

pub shorten-requires : goal.shorten-requires
shorten-requires c =
    let s = c.args in
    target-long 20 16 s.source.now s.target.now (passes c.in_ok-lengths.was c.lengths.ensures)

pub returns : goal.returns
unfolding backward_refusal
returns c =
    let s = c.args in record {
      result_value = goes-on c.in_ok-lengths.was c.lengths.ensures c.in_ok-trips.ensures;
      target_after = c.shorten.ensures
          ∙ sym (done-leaves (backward_refusal s.source.now s.target.now) _ _ (passes c.in_ok-trips.was (goes-on c.in_ok-lengths.was c.lengths.ensures c.trips.ensures)));
    }
