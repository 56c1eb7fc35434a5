-- `queries::answer_all` meets its contract: the tables are judged once, with the first share, and each query is answered in turn. Assumes nothing.
use native.Mathlib.Omega.{arith}
use Rattle.queries.specs.InTurn.{share_of}
use Rattle.queries.proofs.Turn.{none-asked}
use Rattle.queries.proofs.answer_all.Goals as goal

pub returns-then-n-eq0 : goal.returns-then-n-eq0
returns-then-n-eq0 c = none-asked _ _ _ _ _ _ _ c.if-n-eq0.true (omega arith)

pub returns : goal.returns
unfolding share_of
returns c = c.answer_each.ensures
