use native.Mathlib.Omega.{arith}
use mathlib.Core.Path.{refl, sym, ◌∙◌}
use Rattle.lines.specs.Spans.{quotes}
use Rattle.stops.proofs.StopLines.{no-columns, broken-header, sound-header, columns-below}
use borrow.Author.Tests.{not-true, not-false}
use Rattle.stops.proofs.fault_below.Goals as goal

pub returns-then-not-columns_once : goal.returns-then-not-columns_once
returns-then-not-columns_once c = c.refused.ensures.told ∙ no-columns _ _ (sym c.if-not-columns_once.ensures)

pub returns-then-not-fields : goal.returns-then-not-fields
returns-then-not-fields c = c.refused-then-not-fields.ensures.told ∙ broken-header _ _ (sym c.if-not-columns_once.ensures) (sym c.count_fields-fields.ensures.sound ∙ not-true _ c.if-not-fields.true)

pub column_of-arrival-requires : goal.column_of-arrival-requires
unfolding quotes
column_of-arrival-requires c = refl

pub column_of-departure-requires : goal.column_of-departure-requires
unfolding quotes
column_of-departure-requires c = refl

pub column_of-sequence-requires : goal.column_of-sequence-requires
unfolding quotes
column_of-sequence-requires c = refl

pub lines_fault-requires : goal.lines_fault-requires
lines_fault-requires c = record {
  from_in_bounds = c.requires;
  arrival_lt_count = columns-below _ _ _ _ _ (sym c.if-not-columns_once.ensures) c.count_fields-fields.ensures.many c.column_of-arrival.ensures c.column_of-departure.ensures c.column_of-sequence.ensures (omega (arith, c.count_fields-fields.ensures.few, c.well_formed.0.1));
}

pub returns : goal.returns
returns c = c.lines_fault.ensures ∙ sound-header _ _ (sym c.if-not-columns_once.ensures) _ _ _ _ (sym c.count_fields-fields.ensures.sound ∙ not-false _ c.if-not-fields.false) c.count_fields-fields.ensures.many c.column_of-arrival.ensures c.column_of-departure.ensures c.column_of-sequence.ensures
