use Rattle.parts.proofs.Laws.{near-walk, near-twin, near_none}
use Rattle.parts.proofs.near_on.Goals as goal

pub returns-then-i-e : goal.returns-then-i-e
returns-then-i-e c = near-walk _ _ c.if-i-e.true

pub returns-then-i-e-2 : goal.returns-then-i-e-2
returns-then-i-e-2 c = near-twin _ _ c.if-i-e.false c.if-i-e-2.true

pub returns : goal.returns
returns c = near_none _ _ c.if-i-e.false c.if-i-e-2.false
