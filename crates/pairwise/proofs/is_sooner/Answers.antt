use mathlib.Core.Path.{refl}
use Rattle.pairwise.specs.Asked.{sooner}
use Rattle.pairwise.proofs.is_sooner.Goals as goal

pub returns : goal.returns
unfolding sooner
returns c = refl
