-- `blocks::stays` meets its contract. Assumes nothing.
use mathlib.Core.Path.{refl}
use Rattle.blocks.specs.Block.{stays_in}
use Rattle.blocks.proofs.stays.Goals as goal

pub returns : goal.returns
unfolding stays_in
returns c = refl
