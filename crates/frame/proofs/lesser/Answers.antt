-- `frame::lesser` meets its contract: its test is the definition's. Assumes nothing.
use Rattle.frame.specs.Floats.{lesser_of}
use Rattle.frame.proofs.lesser.Goals as goal

pub returns-then-b-a : goal.returns-then-b-a
unfolding lesser_of
returns-then-b-a c = simp c.if-b-a.true

pub returns-else-b-a : goal.returns-else-b-a
unfolding lesser_of
returns-else-b-a c = simp c.if-b-a.false
