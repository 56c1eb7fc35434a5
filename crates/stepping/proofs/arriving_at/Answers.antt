-- `stepping::arriving_at` meets its contract. Assumes nothing.
use Rattle.stepping.proofs.NextEntry.{arriving-is}
use Rattle.stepping.proofs.arriving_at.Goals as goal

pub returns : goal.returns
returns c = arriving-is _ _ _ _ _ _ _ _ _ _ _ _ _ c.first_arriving-first_walk.ensures c.end_arriving.ensures c.first_arriving-first_hop.ensures c.end_arriving-2.ensures
