use mathlib.Core.Path.{◌∙◌}
use Rattle.worktable.proofs.Ones.{as-one}
use Rattle.blocks.proofs.above.Goals as goal

pub returns : goal.returns
returns c = c.from.ensures ∙ as-one _
