-- `passing::from_at` meets its contract: the walks come first. Assumes nothing.
use borrow.Author.Tests.{lt-ltb, le-ltb}
use Rattle.journeys.specs.Tables.{walk_at, hop_at}
use Rattle.passing.specs.Row.{record_of}
use Rattle.passing.proofs.from_at.Goals as goal

pub returns-then-j-arriving : goal.returns-then-j-arriving
unfolding record_of walk_at
returns-then-j-arriving c =
    rw (lt-ltb _ _ c.if-j-arriving.true, c.word_at.ensures)

pub returns : goal.returns
unfolding record_of hop_at
returns c =
    rw (le-ltb _ _ c.if-j-arriving.false, c.from_at.ensures)
