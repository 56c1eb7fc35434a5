-- `words::put_word` meets its contract: the bytes of the number are copied to the place. Assumes nothing.
use mathlib.Core.Path.{◌∙◌}
use native.Mathlib.Omega.{arith}
use Rattle.words.proofs.Written.{word-copied}
use Rattle.words.proofs.put_word.Goals as goal

pub returns : goal.returns
returns c = word-copied _ _ c.args.at _ c.args.x (omega arith) c.ranges.x.fits (c.copy_from_slice.ensures.after ∙ c.to_be_bytes.ensures)
