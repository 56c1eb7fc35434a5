use Rattle.feed.specs.Lines.{place}
use Rattle.pairwise.proofs.placed.Goals as goal

pub returns : goal.returns
unfolding place
returns c = c.min.ensures
