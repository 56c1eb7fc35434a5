use mathlib.Core.Path.{sym, subst}
use Rattle.steps.specs.Running.{WaitsIs}
use Rattle.steps.proofs.LoopEnds.{waits-if}
use Rattle.steps.proofs.waits.Goals as goal

pub returns : goal.returns
returns c = subst (WaitsIs _ _ _) (sym c.is_some.ensures) (waits-if _ _ _ _ c.next.ensures)
