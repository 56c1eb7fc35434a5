-- `patients::report_fault` meets its contract: each return is the first test that fails. Assumes nothing.
use mathlib.Core.Path.{◌∙◌}
use Rattle.evening.proofs.AskedEvening.{patients-cut, report-cut, none-cut}
use Rattle.evening.proofs.report_fault.Goals as goal

pub returns-then-patients-n : goal.returns-then-patients-n
returns-then-patients-n c = c.refused.ensures.told ∙ patients-cut _ _ _ _ c.if-patients-n.true

pub returns-then-report-n : goal.returns-then-report-n
returns-then-report-n c = c.refused-then-report-n.ensures.told ∙ report-cut _ _ _ _ c.if-patients-n.false c.if-report-n.true

pub returns : goal.returns
returns c = none-cut _ _ _ _ c.if-patients-n.false c.if-report-n.false
