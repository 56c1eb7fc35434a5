-- `intake::input_fault` meets its contract: the scratch is cleared behind the chain. Assumes nothing.
use Rattle.intake.proofs.input_fault.Goals as goal

pub returns : goal.returns
returns c = record {
  result_value = c.first_fault-fault.ensures;
  scratch_after = c.clear.ensures;
}
