-- `frame::greater` meets its contract: its test is the definition's. Assumes nothing.
use Rattle.frame.specs.Floats.{greater_of}
use Rattle.frame.proofs.greater.Goals as goal

pub returns-then-a-b : goal.returns-then-a-b
unfolding greater_of
returns-then-a-b c = simp c.if-a-b.true

pub returns-else-a-b : goal.returns-else-a-b
unfolding greater_of
returns-else-a-b c = simp c.if-a-b.false
