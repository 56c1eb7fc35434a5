-- `find`: the first place, and the vertex's own record tells how many numbers it has. Assumes nothing.
use Rattle.stretches.proofs.Halving.{found}
use Rattle.stretches.proofs.find.Goals as goal

pub returns : goal.returns
returns c =
    found _ _ _ _ c.requires.sound.0 c.args.v _ _ c.place_of-first.ensures c.departing_of-many.ensures
