-- `siltbrow::siltbrow_check` meets its contract: it packs what the check answers. Assumes nothing.
use mathlib.Core.Path.{ap, ◌∙◌}
use Rattle.siltbrow.specs.Packed.{packed}
use Rattle.siltbrow.proofs.siltbrow_check.Goals as goal

pub returns : goal.returns
returns c = c.pack.ensures ∙ ap packed c.check-refusal.ensures.result_value
