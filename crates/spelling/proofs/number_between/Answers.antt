use Rattle.spelling.proofs.SpellLaws.{second-good}
use Rattle.spelling.proofs.number_between.Goals as goal

pub number_of-requires : goal.number_of-requires
number_of-requires c = second-good _ c.requires.2
