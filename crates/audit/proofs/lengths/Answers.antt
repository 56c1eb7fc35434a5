-- `audit::lengths` meets its contract: each return is the first test that fails. Assumes nothing.
use mathlib.Core.Path.{◌∙◌}
use Rattle.journeys.specs.Refusals.{table_lengths, or_else, unless}
use borrow.Author.Tests.{not-true, not-false}
use Rattle.audit.proofs.lengths.Goals as goal

pub returns-then-not-table_ok : goal.returns-then-not-table_ok
unfolding table_lengths or_else unless
returns-then-not-table_ok c = c.refused.ensures.told ∙ simp (← c.table_ok.ensures, not-true c.table_ok.result c.if-not-table_ok.true-raw)

pub returns-then-not-table_ok-2 : goal.returns-then-not-table_ok-2
unfolding table_lengths or_else unless
returns-then-not-table_ok-2 c = c.refused-then-not-table_ok-2.ensures.told ∙ simp (← c.table_ok.ensures, not-false c.table_ok.result c.if-not-table_ok.false-raw, ← c.table_ok-2.ensures, not-true c.table_ok-2.result c.if-not-table_ok-2.true-raw)

pub returns-then-not-hops_ok : goal.returns-then-not-hops_ok
unfolding table_lengths or_else unless
returns-then-not-hops_ok c = c.refused-then-not-hops_ok.ensures.told ∙ simp (← c.table_ok.ensures, not-false c.table_ok.result c.if-not-table_ok.false-raw, ← c.table_ok-2.ensures, not-false c.table_ok-2.result c.if-not-table_ok-2.false-raw, ← c.hops_ok.ensures, not-true c.hops_ok.result c.if-not-hops_ok.true-raw)

pub returns : goal.returns
unfolding table_lengths or_else unless
returns c = simp (← c.table_ok.ensures, not-false c.table_ok.result c.if-not-table_ok.false-raw, ← c.table_ok-2.ensures, not-false c.table_ok-2.result c.if-not-table_ok-2.false-raw, ← c.hops_ok.ensures, not-false c.hops_ok.result c.if-not-hops_ok.false-raw)
