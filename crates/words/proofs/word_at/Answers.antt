use Rattle.journeys.specs.Bytes.{be32}
use borrow.Author.Rules.{rules}
use Rattle.words.proofs.word_at.Goals as goal

pub returns : goal.returns
unfolding be32
returns c = search rules
