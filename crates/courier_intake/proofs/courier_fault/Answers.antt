-- `courier_fault`: the scratch is cleared behind the chain. Assumes nothing.
use Rattle.courier_intake.proofs.courier_fault.Goals as goal

pub returns : goal.returns
returns c = record {
  result_value = c.first_fault-fault.ensures;
  scratch_after = c.clear.ensures;
}
