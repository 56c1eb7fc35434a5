-- `ended`: a timed stop is no such end.
use mathlib.Core.Path.{sym, ◌∙◌}
use Rattle.journeys.proofs.Tests.{cond-true, cond-false}
use Rattle.carry.specs.Carried as spec
use Rattle.carry.proofs.ended.Goals as goal

pub returns-then-timed : goal.returns-then-timed
unfolding spec.ended
returns-then-timed c = sym (cond-true _ _ (sym c.timed.ensures ∙ c.if-timed.true))

pub returns : goal.returns
unfolding spec.ended
returns c = sym (cond-false _ _ (sym c.timed.ensures ∙ c.if-timed.false))
