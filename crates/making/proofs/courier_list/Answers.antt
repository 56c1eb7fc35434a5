-- `courier_list`: the scratch is cleared behind the chain. Assumes nothing.
use Rattle.making.proofs.courier_list.Goals as goal

pub returns : goal.returns
returns c = record {
  result_value = c.checked_list-refusal.ensures.result_value;
  list_after = c.checked_list-refusal.ensures.list_after;
  scratch_after = c.clear.ensures;
}
