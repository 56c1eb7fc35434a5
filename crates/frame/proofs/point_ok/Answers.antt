-- `frame::point_ok` meets its contract: its test is the definition's. Assumes nothing.
use Rattle.frame.specs.Frames.{point_ok}
use Rattle.frame.proofs.point_ok.Goals as goal

pub returns : goal.returns
unfolding point_ok
returns c = rw (c.finite.ensures, c.finite-2.ensures, c.word_at.ensures, c.word_at-2.ensures)
