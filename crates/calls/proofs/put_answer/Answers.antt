use Rattle.frame.proofs.SixWords.{six-numbers}
use Rattle.calls.proofs.put_answer.Goals as goal

pub returns : goal.returns
returns c =
    six-numbers _ _ _ _ _ _ _ c.requires _ _ _ _ _ _ c.put_word.ensures c.put_word-2.ensures c.put_word-3.ensures c.put_word-4.ensures c.put_word-5.ensures c.put_word-6.ensures
