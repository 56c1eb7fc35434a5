-- `frame::put` meets its contract: six numbers one behind the other. Assumes nothing.
use Rattle.frame.specs.Frames.{frame_bytes}
use Rattle.frame.proofs.SixWords.{six-numbers}
use Rattle.frame.proofs.put.Goals as goal

pub returns : goal.returns
unfolding frame_bytes
returns c =
    six-numbers _ _ _ _ _ _ _ c.requires.out_len _ _ _ _ _ _ c.put_word.ensures c.put_word-2.ensures c.put_word-3.ensures c.put_word-4.ensures c.put_word-5.ensures c.put_word-6.ensures
