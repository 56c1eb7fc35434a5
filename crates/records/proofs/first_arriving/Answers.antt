-- `records::first_arriving` meets its contract: each arm reads the field of its kind. Assumes nothing.
use Rattle.journeys.specs.Tables.{vertex_at}
use Rattle.records.specs.Arriving.{first_of}
use Rattle.records.proofs.first_arriving.Goals as goal

pub returns-in-Walks : goal.returns-in-Walks
unfolding first_of vertex_at
returns-in-Walks c = rw (c.in-Walks.is, c.word_at.ensures)

pub returns-in-Hops : goal.returns-in-Hops
unfolding first_of vertex_at
returns-in-Hops c = rw (c.in-Hops.is, c.word_at-in-Hops.ensures)
