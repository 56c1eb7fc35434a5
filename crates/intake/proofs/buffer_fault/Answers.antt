use mathlib.Core.Path.{◌∙◌}
use Rattle.intake.proofs.FirstFault.{held_cut, settled-cut, none-cut}
use Rattle.intake.proofs.buffer_fault.Goals as goal

pub returns-then-held-ne0 : goal.returns-then-held-ne0
returns-then-held-ne0 c = c.refused.ensures.told ∙ held_cut _ _ c.if-held-ne0.true

pub returns-then-settled-ne0 : goal.returns-then-settled-ne0
returns-then-settled-ne0 c = c.refused-then-settled-ne0.ensures.told ∙ settled-cut _ _ c.if-held-ne0.false c.if-settled-ne0.true

pub returns : goal.returns
returns c = none-cut _ _ c.if-held-ne0.false c.if-settled-ne0.false
