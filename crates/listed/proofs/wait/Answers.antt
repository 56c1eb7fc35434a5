-- `wait`: three words.
use mathlib.Core.Path.{refl}
use Rattle.listed.specs.Waiting.{waited}
use Rattle.listed.proofs.wait.Goals as goal

pub returns : goal.returns
unfolding waited
returns c = refl
