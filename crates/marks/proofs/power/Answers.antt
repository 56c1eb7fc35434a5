use Rattle.marks.proofs.Bits.{shifted}
use Rattle.marks.proofs.power.Goals as goal

pub returns : goal.returns
returns c = shifted c.args.k c.requires
