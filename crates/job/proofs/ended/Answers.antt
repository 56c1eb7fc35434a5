-- `job::ended` meets its contract: each arm is the case of `ended_of` that its test picks. Assumes nothing.
use borrow.Author.Tests.{eq-eqb, ne_eqb}
use Rattle.job.specs.Steps.{ended_of}
use Rattle.job.proofs.ended.Goals as goal

pub returns-then-s-end : goal.returns-then-s-end
unfolding ended_of
returns-then-s-end c = simp (eq-eqb _ _ c.if-s-end.true, c.asked_at-asked.ensures)

pub returns-else-s-end : goal.returns-else-s-end
unfolding ended_of
returns-else-s-end c = simp (ne_eqb _ _ c.if-s-end.false)
