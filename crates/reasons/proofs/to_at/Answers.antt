-- `reasons::to_at` meets its contract: the walks come first. Assumes nothing.
use borrow.Author.Tests.{lt-ltb, le-ltb}
use Rattle.journeys.specs.Tables.{walk_at, hop_at}
use Rattle.passing.specs.Row.{record_of}
use Rattle.reasons.proofs.to_at.Goals as goal

pub returns-then-r-all : goal.returns-then-r-all
unfolding record_of walk_at
returns-then-r-all c = rw (lt-ltb _ _ c.if-r-all.true, c.word_at.ensures)

pub returns : goal.returns
unfolding record_of hop_at
returns c = rw (le-ltb _ _ c.if-r-all.false, c.to_at.ensures)
