-- `queries::whole_fault` meets its contract: the chain of refusals 1 to 6. Assumes nothing.
use Rattle.audit.proofs.Whole.{sizes}
use Rattle.words.proofs.Chains.{passes, stops, goes-on}
use Rattle.queries.specs.Judged.{judged}
use Rattle.queries.proofs.whole_fault.Goals as goal

pub returns-in_err-lengths : goal.returns-in_err-lengths
unfolding judged
returns-in_err-lengths c = stops _ _ c.in_err-lengths.was c.lengths.ensures c.from_residual.ensures

pub returns-in_err-buffer_fault : goal.returns-in_err-buffer_fault
unfolding judged
returns-in_err-buffer_fault c = goes-on c.in_ok-lengths.was c.lengths.ensures (stops _ _ c.in_err-buffer_fault.was c.buffer_fault.ensures c.from_residual-in_err-buffer_fault.ensures)

pub contents-requires : goal.contents-requires
contents-requires c = sizes _ _ _ _ (passes c.in_ok-lengths.was c.lengths.ensures)

pub returns : goal.returns
unfolding judged
returns c = goes-on c.in_ok-lengths.was c.lengths.ensures (goes-on c.in_ok-buffer_fault.was c.buffer_fault.ensures c.contents.ensures.result_value)
