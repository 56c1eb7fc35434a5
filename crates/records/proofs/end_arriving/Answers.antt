-- `records::end_arriving` meets its contract: each return is the case that its test picks. Assumes nothing.
use borrow.Author.Tests.{lt-ltb, le-ltb}
use Rattle.records.specs.Arriving.{end_of}
use Rattle.records.proofs.end_arriving.Goals as goal

pub returns-then-next-vertices : goal.returns-then-next-vertices
unfolding end_of
returns-then-next-vertices c = simp (lt-ltb _ _ c.if-next-vertices.true, c.first_arriving.ensures)

pub returns : goal.returns
unfolding end_of
returns c = simp (le-ltb _ _ c.if-next-vertices.false)
