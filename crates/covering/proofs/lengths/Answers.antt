use mathlib.Core.Path.{◌∙◌}
use Rattle.covering.proofs.FirstFault.{list-cut, parts_cut, none-cut}
use Rattle.covering.proofs.lengths.Goals as goal

pub returns-then-list-ne0 : goal.returns-then-list-ne0
returns-then-list-ne0 c = c.refused.ensures.told ∙ list-cut _ _ c.if-list-ne0.true

pub returns-then-parts-ne0 : goal.returns-then-parts-ne0
returns-then-parts-ne0 c = c.refused-then-parts-ne0.ensures.told ∙ parts_cut _ _ c.if-list-ne0.false c.if-parts-ne0.true

pub returns : goal.returns
returns c = none-cut _ _ c.if-list-ne0.false c.if-parts-ne0.false
