-- `patients::lengths_fault` meets its contract: the chain of all lengths. Assumes nothing.
use Rattle.words.proofs.Chains.{stops, goes-on}
use Rattle.evening.specs.Asked.{evening_lengths}
use Rattle.evening.proofs.lengths_fault.Goals as goal

pub returns-in_err-lengths : goal.returns-in_err-lengths
unfolding evening_lengths
returns-in_err-lengths c = stops _ _ c.in_err-lengths.was c.lengths.ensures c.from_residual.ensures

pub returns-in_err-buffer_fault : goal.returns-in_err-buffer_fault
unfolding evening_lengths
returns-in_err-buffer_fault c = goes-on c.in_ok-lengths.was c.lengths.ensures (stops _ _ c.in_err-buffer_fault.was c.buffer_fault.ensures c.from_residual-in_err-buffer_fault.ensures)

pub returns : goal.returns
unfolding evening_lengths
returns c = goes-on c.in_ok-lengths.was c.lengths.ensures (goes-on c.in_ok-buffer_fault.was c.buffer_fault.ensures c.report_fault.ensures)
