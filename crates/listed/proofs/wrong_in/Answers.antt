-- `wrong_in`: a stretch that rises is right, any other is passed exactly.
use Rattle.listed.proofs.Judging.{rising-all}
use Rattle.listed.proofs.wrong_in.Goals as goal

pub returns-then-rises : goal.returns-then-rises
returns-then-rises c =
    rising-all _ _ _ _ _ c.requires.stretch.begins c.requires.stretch.ends (c.rises.ensures c.if-rises.true).rising
