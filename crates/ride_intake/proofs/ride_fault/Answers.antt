-- `ride_fault`: the lengths, the contents, the query, the boarding time and the scratch. Assumes nothing.
use Rattle.boarding.specs.RideAnswers.{ride_early}
use Rattle.audit.proofs.Whole.{sizes}
use Rattle.words.proofs.Chains.{passes, stops, goes-on}
use Rattle.ride_intake.proofs.ride_fault.Goals as goal

pub returns-in_err-lengths : goal.returns-in_err-lengths
unfolding ride_early
returns-in_err-lengths c =
    stops _ _ c.in_err-lengths.was c.lengths.ensures c.from_residual.ensures

pub returns-in_err-list_fault : goal.returns-in_err-list_fault
unfolding ride_early
returns-in_err-list_fault c =
    goes-on c.in_ok-lengths.was c.lengths.ensures
    (stops _ _ c.in_err-list_fault.was c.list_fault.ensures c.from_residual-in_err-list_fault.ensures)

pub contents-requires : goal.contents-requires
contents-requires c = sizes _ _ _ _ (passes c.in_ok-lengths.was c.lengths.ensures)

pub returns-in_err-contents : goal.returns-in_err-contents
unfolding ride_early
returns-in_err-contents c =
    goes-on c.in_ok-lengths.was c.lengths.ensures
    (goes-on c.in_ok-list_fault.was c.list_fault.ensures
    (stops _ _ c.in_err-contents.was c.contents.ensures.result_value c.from_residual-in_err-contents.ensures))

pub returns-in_err-query_fault : goal.returns-in_err-query_fault
unfolding ride_early
returns-in_err-query_fault c =
    goes-on c.in_ok-lengths.was c.lengths.ensures
    (goes-on c.in_ok-list_fault.was c.list_fault.ensures
    (goes-on c.in_ok-contents.was c.contents.ensures.result_value
    (stops _ _ c.in_err-query_fault.was (c.query_fault.ensures _ _ _) c.from_residual-in_err-query_fault.ensures)))

pub returns : goal.returns
unfolding ride_early
returns c =
    goes-on c.in_ok-lengths.was c.lengths.ensures
    (goes-on c.in_ok-list_fault.was c.list_fault.ensures
    (goes-on c.in_ok-contents.was c.contents.ensures.result_value
    (goes-on c.in_ok-query_fault.was (c.query_fault.ensures _ _ _)
    (c.mode_fault.ensures))))
