-- `reasons::seed_at` meets its contract: the ends are tested in the order of the definition. Assumes nothing.
use mathlib.Core.Path.{sym, ◌∙◌}
use borrow.Author.Tests.{eq-eqb, ne_eqb}
use Rattle.journeys.proofs.Tests.{cond-true, cond-false}
use Rattle.reasons.specs.Rows.{seed_of}
use Rattle.reasons.proofs.seed_at.Goals as goal

pub returns-then-ends-v : goal.returns-then-ends-v
unfolding seed_of
returns-then-ends-v c = sym (cond-true _ _ (eq-eqb _ _ c.if-ends-v.true))

pub returns-then-ends-v-2 : goal.returns-then-ends-v-2
unfolding seed_of
returns-then-ends-v-2 c = sym (cond-false _ _ (ne_eqb _ _ c.if-ends-v.false) ∙ cond-true _ _ (eq-eqb _ _ c.if-ends-v-2.true))

pub returns : goal.returns
unfolding seed_of
returns c = sym (cond-false _ _ (ne_eqb _ _ c.if-ends-v.false) ∙ cond-false _ _ (ne_eqb _ _ c.if-ends-v-2.false))
