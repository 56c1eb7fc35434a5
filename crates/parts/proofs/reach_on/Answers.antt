use mathlib.Core.Path.{sym, ◌∙◌}
use Rattle.parts.specs.Listing.{reach_on}
use Rattle.journeys.proofs.Tests.{cond-true, cond-false}
use Rattle.parts.proofs.reach_on.Goals as goal

pub returns-then-i-e : goal.returns-then-i-e
unfolding reach_on
returns-then-i-e c = c.near_on.ensures ∙ sym (cond-true _ _ c.if-i-e.true)

pub returns : goal.returns
unfolding reach_on
returns c = sym (cond-false _ _ c.if-i-e.false)
