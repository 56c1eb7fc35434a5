-- `records::pair_ok` meets its contract: its test is the definition's. Assumes nothing.
use mathlib.Core.Path.{refl}
use Rattle.journeys.specs.Refusals.{pair_ok}
use Rattle.records.proofs.pair_ok.Goals as goal

pub returns : goal.returns
unfolding pair_ok
returns c = rw c.eq.ensures refl
