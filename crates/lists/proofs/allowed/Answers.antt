-- `lists::allowed` meets its contract: its test is the definition's. Assumes nothing.
use mathlib.Core.Path.{refl}
use Rattle.journeys.specs.Lists.{allows}
use Rattle.lists.proofs.allowed.Goals as goal

pub returns : goal.returns
unfolding allows
returns c = refl
