-- `frame::finite` meets its contract: its test is the definition's. Assumes nothing.
use mathlib.Core.Path.{refl}
use Rattle.frame.specs.Frames.{finite_bits}
use Rattle.frame.proofs.finite.Goals as goal

pub returns : goal.returns
unfolding finite_bits
returns c = refl
