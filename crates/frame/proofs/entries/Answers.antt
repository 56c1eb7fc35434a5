-- `frame::entries` meets its contract: the judge's answer with the number 21. Assumes nothing.
use mathlib.Core.Path.{sym, ap, ◌∙◌}
use Rattle.lists.specs.Lists.{told}
use Rattle.frame.proofs.entries.Goals as goal

pub returns-in-Ok : goal.returns-in-Ok
unfolding told
returns-in-Ok c = record {
  result_value = sym (ap (told 21) c.in-Ok.is) ∙ c.judge.ensures.result_value;
  marks_after = c.judge.ensures.marks_after;
}

pub returns-in-Err : goal.returns-in-Err
unfolding told
returns-in-Err c = record {
  result_value = c.refused.ensures.told ∙ sym (ap (told 21) c.in-Err.is) ∙ c.judge.ensures.result_value;
  marks_after = c.judge.ensures.marks_after;
}
