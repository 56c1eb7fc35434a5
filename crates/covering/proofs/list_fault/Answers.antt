use mathlib.Core.Path.{◌∙◌}
use Rattle.covering.proofs.FirstFault.{all-good, one-bad}
use Rattle.covering.proofs.list_fault.Goals as goal

pub returns-in-Ok : goal.returns-in-Ok
returns-in-Ok c = all-good _ c.judge.ensures.result_value c.in-Ok.is

pub returns-in-Err : goal.returns-in-Err
returns-in-Err c = c.refused.ensures.told ∙ one-bad _ c.judge.ensures.result_value _ c.in-Err.is
