use mathlib.Core.Path.{refl}
use Rattle.journeys.specs.Bytes.{cleared}
use Rattle.covering.proofs.give_up.Goals as goal

pub returns : goal.returns
unfolding cleared
returns c = (refl, refl, c.zero.ensures)
