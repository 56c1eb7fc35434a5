-- `first_fault`: the lengths of the tables, of the buffers and of the list, then the contents. Assumes nothing.
use Rattle.journeys.specs.CourierAnswers.{courier_early}
use Rattle.audit.proofs.Whole.{sizes}
use Rattle.making.proofs.InOrder.{length_is}
use Rattle.words.proofs.Chains.{passes, stops, goes-on}
use Rattle.courier_intake.proofs.first_fault.Goals as goal

pub returns-in_err-lengths : goal.returns-in_err-lengths
unfolding courier_early
returns-in_err-lengths c =
    stops _ _ c.in_err-lengths.was c.lengths.ensures c.from_residual.ensures

pub returns-in_err-buffer_fault : goal.returns-in_err-buffer_fault
unfolding courier_early
returns-in_err-buffer_fault c =
    goes-on c.in_ok-lengths.was c.lengths.ensures
    (stops _ _ c.in_err-buffer_fault.was c.buffer_fault.ensures c.from_residual-in_err-buffer_fault.ensures)

pub list_length-requires : goal.list_length-requires
list_length-requires c = sizes _ _ _ _ (passes c.in_ok-lengths.was c.lengths.ensures)

pub returns-in_err-list_length : goal.returns-in_err-list_length
unfolding courier_early
returns-in_err-list_length c =
    goes-on c.in_ok-lengths.was c.lengths.ensures
    (goes-on c.in_ok-buffer_fault.was c.buffer_fault.ensures
    (stops _ _ c.in_err-list_length.was c.list_length.ensures c.from_residual-in_err-list_length.ensures))

pub contents_fault-requires : goal.contents_fault-requires
contents_fault-requires c = record {
  hops_value = passes c.in_ok-lengths.was c.lengths.ensures;
  list_len = length_is _ _ _ _ _ (passes c.in_ok-list_length.was c.list_length.ensures);
}

pub returns : goal.returns
unfolding courier_early
returns c =
    goes-on c.in_ok-lengths.was c.lengths.ensures
    (goes-on c.in_ok-buffer_fault.was c.buffer_fault.ensures
    (goes-on c.in_ok-list_length.was c.list_length.ensures
    (c.contents_fault.ensures.result_value)))
