use Rattle.parts.proofs.Laws.{listed-none, listed-full, listed-one}
use Rattle.parts.proofs.list_part.Goals as goal

pub returns-then-p : goal.returns-then-p
returns-then-p c = listed-none _ _ _ _ _ c.requires c.if-p.true

pub returns-then-count-parts : goal.returns-then-count-parts
returns-then-count-parts c = listed-full _ _ _ _ _ c.requires c.if-p.false c.if-count-parts.true

pub returns : goal.returns
returns c = listed-one _ _ _ _ _ c.requires _ c.if-p.false c.if-count-parts.false c.add_part.ensures
