use Rattle.parts.proofs.Laws.{ahead-on}
use Rattle.parts.proofs.departing.Goals as goal

pub returns : goal.returns
returns c =
    ahead-on _ _ _ _ _ _ _ _ _ c.word_at.ensures c.length_of-len.ensures c.reach_on.ensures c.smaller-end.ensures c.walked_on.ensures
