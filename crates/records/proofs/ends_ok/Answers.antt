-- `records::ends_ok` meets its contract: its test is the definition's. Assumes nothing.
use mathlib.Core.Path.{refl}
use Rattle.journeys.specs.Refusals.{ends_ok}
use Rattle.records.proofs.ends_ok.Goals as goal

pub returns : goal.returns
unfolding ends_ok
returns c = refl
