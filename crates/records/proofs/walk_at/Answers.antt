-- `records::walk_at` meets its contract: its four words are the record's. Assumes nothing.
use Rattle.journeys.specs.Tables.{walk_at}
use Rattle.records.proofs.walk_at.Goals as goal

pub returns : goal.returns
unfolding walk_at
returns c =
    rw (c.wait_of.ensures, c.length_of.ensures, c.word_at-bits.ensures, c.word_at.ensures, c.word_at-2.ensures, c.word_at-3.ensures)
