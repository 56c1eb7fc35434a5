-- `audit::table_ok` meets its contract: its test is the definition's. Assumes nothing.
use mathlib.Core.Path.{refl}
use Rattle.journeys.specs.Refusals.{table_of, whole_of}
use Rattle.audit.proofs.table_ok.Goals as goal

pub returns : goal.returns
unfolding table_of whole_of
returns c = refl
