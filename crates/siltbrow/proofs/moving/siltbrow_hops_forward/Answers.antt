-- `siltbrow_hops_forward` meets its contract: it packs what the move answers. Assumes nothing.
use mathlib.Core.Path.{ap, ◌∙◌}
use Rattle.siltbrow.specs.Packed.{packed}
use Rattle.siltbrow.proofs.moving.siltbrow_hops_forward.Goals as goal

pub returns : goal.returns
returns c = let move = c.forward-refusal in record {
  value = c.pack.ensures ∙ ap packed move.ensures.result_value;
  target_after = move.ensures.target_after;
}
