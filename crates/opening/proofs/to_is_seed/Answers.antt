use mathlib.Core.Path.{ap}
use mathlib.Core.Bool.{Bool, not, ◌||◌}
use lib.Dec.{eqb}
use Rattle.journeys.specs.Counting.{none}
use Rattle.opening.specs.Seeds.{to_is_seed}
use Rattle.opening.proofs.to_is_seed.Goals as goal

pub returns : goal.returns
unfolding to_is_seed
returns c = ap (λ (t : Bool). not (eqb c.args.e.twin none) || t) c.at_end.ensures
