-- `reach::answer_read` meets its contract: what was read tells the text of the whole input. Assumes nothing.
use Rattle.reach.proofs.Texts.{read-answered}
use Rattle.reach.proofs.answer_read.Goals as goal

pub returns : goal.returns
returns c = record {
  by_index = λ s e. read-answered s _ _ _ _ e c.answer.ensures.answered;
  prefix_len = c.answer.ensures.prefix_len;
}
