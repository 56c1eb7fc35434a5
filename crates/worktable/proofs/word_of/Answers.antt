-- `word_of`: the fields side by side.
use native.Mathlib.Omega.{arith}
use Rattle.worktable.specs.Inside.{word_of}
use Rattle.worktable.proofs.word_of.Goals as goal

pub returns : goal.returns
unfolding word_of
returns c = omega (arith, c.min-k.ensures)
