use mathlib.Core.Path.{◌∙◌}
use Rattle.ride_intake.proofs.Judged.{list-cut, list-whole}
use Rattle.ride_intake.proofs.list_fault.Goals as goal

pub returns-then-settled-ne0 : goal.returns-then-settled-ne0
returns-then-settled-ne0 c = c.refused.ensures.told ∙ list-cut _ c.if-settled-ne0.true

pub returns : goal.returns
returns c = list-whole _ c.if-settled-ne0.false
