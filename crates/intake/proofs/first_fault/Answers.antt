-- `intake::first_fault` meets its contract: each return is the first part that refuses. Assumes nothing.
use Rattle.journeys.specs.Answers.{early}
use Rattle.audit.proofs.Whole.{sizes}
use Rattle.words.proofs.Chains.{passes, stops, goes-on}
use Rattle.intake.proofs.first_fault.Goals as goal

pub returns-in_err-lengths : goal.returns-in_err-lengths
unfolding early
returns-in_err-lengths c =
    stops _ _ c.in_err-lengths.was c.lengths.ensures c.from_residual.ensures

pub returns-in_err-buffer_fault : goal.returns-in_err-buffer_fault
unfolding early
returns-in_err-buffer_fault c =
    goes-on c.in_ok-lengths.was c.lengths.ensures
    (stops _ _ c.in_err-buffer_fault.was c.buffer_fault.ensures c.from_residual-in_err-buffer_fault.ensures)

pub contents-requires : goal.contents-requires
contents-requires c = sizes _ _ _ _ (passes c.in_ok-lengths.was c.lengths.ensures)

pub returns-in_err-contents : goal.returns-in_err-contents
unfolding early
returns-in_err-contents c =
    goes-on c.in_ok-lengths.was c.lengths.ensures
    (goes-on c.in_ok-buffer_fault.was c.buffer_fault.ensures
    (stops _ _ c.in_err-contents.was c.contents.ensures.result_value c.from_residual-in_err-contents.ensures))

pub returns : goal.returns
unfolding early
returns c =
    goes-on c.in_ok-lengths.was c.lengths.ensures
    (goes-on c.in_ok-buffer_fault.was c.buffer_fault.ensures
    (goes-on c.in_ok-contents.was c.contents.ensures.result_value
    (c.query_fault.ensures _ _ _)))
