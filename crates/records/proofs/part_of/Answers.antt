-- `records::part_of` meets its contract: the part is the run, which is inside its table. Assumes nothing.
use Rattle.records.specs.Arriving.{run}
use Rattle.records.proofs.part_of.Goals as goal

pub returns : goal.returns
unfolding run
returns c = rw (c.hop_start.ensures, c.hop_start-2.ensures)
