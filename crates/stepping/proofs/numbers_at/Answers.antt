use mathlib.Core.Path.{refl}
use Rattle.records.specs.Arriving.{run}
use Rattle.heldmap.specs.RowsOfTables.{numbers_at}
use Rattle.stepping.proofs.numbers_at.Goals as goal

pub returns : goal.returns
unfolding numbers_at run
returns c = refl
