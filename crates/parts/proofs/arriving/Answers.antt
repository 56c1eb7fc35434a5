use mathlib.Core.Path.{refl}
use Rattle.parts.proofs.Laws.{part-on}
use Rattle.parts.proofs.arriving.Goals as goal

pub returns : goal.returns
returns c =
    part-on _ _ _ _ _ _ _ _ _ _ _ c.word_at-bits.ensures c.length_of-len.ensures refl c.left_of-rest.ensures
    c.walked_back.ensures c.near_on.ensures c.larger-start.ensures
