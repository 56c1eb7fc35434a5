-- `siltbrow_courier_list` meets its contract: it packs what the making answers. Assumes nothing.
use mathlib.Core.Path.{ap, ◌∙◌}
use Rattle.siltbrow.specs.Packed.{packed}
use Rattle.siltbrow.proofs.dispatch.siltbrow_courier_list.Goals as goal

pub returns : goal.returns
returns c = record {
  value = c.pack.ensures ∙ ap packed c.courier_list-refusal.ensures.result_value;
  list_after = c.courier_list-refusal.ensures.list_after;
}
