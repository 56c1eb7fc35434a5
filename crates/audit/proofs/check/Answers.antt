-- `audit::check` meets its contract: the scratch is cleared behind the chain. Assumes nothing.
use Rattle.audit.proofs.check.Goals as goal

pub returns : goal.returns
returns c = record {
  result_value = c.whole_fault-refusal.ensures;
  scratch_after = c.clear.ensures;
}
