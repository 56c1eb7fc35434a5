-- `vendors::back_ticks` meets its contract. Assumes nothing.
use mathlib.Core.Path.{sym, ◌∙◌}
use Rattle.journeys.proofs.Tests.{cond-true, cond-false}
use Rattle.vendors.specs.Ends.{back_of}
use Rattle.vendors.proofs.back_ticks.Goals as goal

pub returns-then-to_is_seed : goal.returns-then-to_is_seed
unfolding back_of
returns-then-to_is_seed c = c.to_ticks.ensures ∙ sym (cond-true _ _ (sym c.to_is_seed.ensures ∙ c.if-to_is_seed.true))

pub returns : goal.returns
unfolding back_of
returns c = sym (cond-false _ _ (sym c.to_is_seed.ensures ∙ c.if-to_is_seed.false))
