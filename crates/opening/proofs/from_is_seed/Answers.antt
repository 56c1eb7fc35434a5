use mathlib.Core.Path.{refl}
use Rattle.opening.specs.Seeds.{from_is_seed}
use Rattle.opening.proofs.from_is_seed.Goals as goal

pub returns : goal.returns
unfolding from_is_seed
returns c = refl
