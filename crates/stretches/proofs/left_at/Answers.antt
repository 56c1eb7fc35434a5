-- `left_at`: what stands in the list is the number of a record. Assumes nothing.
use Rattle.stretches.proofs.Halving.{here-low}
use Rattle.stretches.proofs.left_at.Goals as goal

pub from_of-requires : goal.from_of-requires
from_of-requires c = (c.requires.le_hop_size.0, here-low c.requires.right _ _ c.requires.in_list c.word_at.ensures)
