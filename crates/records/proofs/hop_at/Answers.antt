-- `records::hop_at` meets its contract: its four words are the record's, which is inside its table. Assumes nothing.
use Rattle.journeys.specs.Tables.{hop_at}
use Rattle.records.proofs.hop_at.Goals as goal

pub returns : goal.returns
unfolding hop_at
returns c =
    rw (c.word_at.ensures, c.word_at-2.ensures, c.seconds_of.ensures, c.seconds_of-2.ensures, c.word_at-3.ensures, c.word_at-4.ensures, c.hop_start-at.ensures)
