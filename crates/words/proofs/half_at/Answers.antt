use Rattle.journeys.specs.Bytes.{be16}
use borrow.Author.Rules.{rules}
use Rattle.words.proofs.half_at.Goals as goal

pub returns : goal.returns
unfolding be16
returns c = search rules
