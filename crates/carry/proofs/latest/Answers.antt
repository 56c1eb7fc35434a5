-- `latest`: a timed stop is the last one.
use mathlib.Core.Path.{sym, ◌∙◌}
use Rattle.journeys.proofs.Tests.{cond-true, cond-false}
use Rattle.carry.specs.Carried as spec
use Rattle.carry.proofs.latest.Goals as goal

pub returns-then-timed : goal.returns-then-timed
unfolding spec.latest
returns-then-timed c = sym (cond-true _ _ (sym c.timed.ensures ∙ c.if-timed.true))

pub returns : goal.returns
unfolding spec.latest
returns c = sym (cond-false _ _ (sym c.timed.ensures ∙ c.if-timed.false))
