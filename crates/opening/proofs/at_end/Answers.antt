use mathlib.Core.Path.{refl}
use Rattle.opening.specs.Seeds.{at_end}
use Rattle.opening.proofs.at_end.Goals as goal

pub returns : goal.returns
unfolding at_end
returns c = refl
