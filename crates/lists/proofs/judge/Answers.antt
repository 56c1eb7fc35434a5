-- `lists::judge` meets its contract: two passes find the first entry that is not good. Assumes nothing.
use native.Mathlib.Omega.{arith}
use Rattle.lists.specs.Lists.{told}
use Rattle.journeys.specs.Lists.{entries, entry_ok, list_refusal}
use Rattle.lists.proofs.Entries.{both-passes, good-few, first-refused, none-refused}
use Rattle.lists.proofs.judge.Goals as goal

pub overflow_cast-result : goal.overflow_cast-result
overflow_cast-result c =
    let a = c.args in
    let f = both-passes a.size a.vertices a.most a.list.now c.requires.le_size.1 _ _ _ c.pass-lower.ensures.first c.pass-found.ensures.first in
    record { fits = omega (arith, good-few a.size a.vertices a.most a.list.now c.requires.le_size.1 c.pass-found.result f.before, c.requires.le_size.1) }

pub returns-then-found-n : goal.returns-then-found-n
unfolding told list_refusal
returns-then-found-n c =
    let a = c.args in
    let f = both-passes a.size a.vertices a.most a.list.now c.requires.le_size.1 _ _ _ c.pass-lower.ensures.first c.pass-found.ensures.first in record {
      result_value = first-refused 21 (omega arith) (entry_ok a.size a.vertices a.most a.list.now) (entries a.size a.list.now) c.pass-found.result f c.if-found-n.true;
      marks_after = c.pass-found.ensures.marks_after;
    }

pub returns-else-found-n : goal.returns-else-found-n
unfolding told list_refusal
returns-else-found-n c =
    let a = c.args in
    let f = both-passes a.size a.vertices a.most a.list.now c.requires.le_size.1 _ _ _ c.pass-lower.ensures.first c.pass-found.ensures.first in record {
      result_value = none-refused 21 (omega arith) (entry_ok a.size a.vertices a.most a.list.now) (entries a.size a.list.now) c.pass-found.result f c.if-found-n.false;
      marks_after = c.pass-found.ensures.marks_after;
    }
