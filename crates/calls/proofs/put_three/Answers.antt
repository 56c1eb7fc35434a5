use Rattle.calls.proofs.ThreeWords.{three-numbers}
use Rattle.calls.proofs.put_three.Goals as goal

pub returns : goal.returns
returns c =
    three-numbers _ _ _ _ c.requires _ _ _ c.put_word.ensures c.put_word-2.ensures c.put_word-3.ensures
