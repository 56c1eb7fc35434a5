-- `records::vertex_at` meets its contract: its four numbers are the record's. Assumes nothing.
use Rattle.journeys.specs.Tables.{vertex_at}
use Rattle.records.proofs.vertex_at.Goals as goal

pub returns : goal.returns
unfolding vertex_at
returns c = rw (c.word_at.ensures, c.word_at-2.ensures, c.half_at.ensures, c.half_at-2.ensures)
