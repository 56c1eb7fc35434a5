use mathlib.Core.Path.{refl}
use Rattle.words.proofs.Rest.{rest-cleared}
use Rattle.covering.proofs.fill.Goals as goal

pub returns : goal.returns
returns c = (refl, rest-cleared _ _ _ _ c.requires.0 refl c.zero.ensures)
