use Rattle.journeys.proofs.Tests.{and_both}
use Rattle.lines.proofs.Strides.{two-plain-is}
use Rattle.lines.proofs.two_plain.Goals as goal

pub returns : goal.returns
returns c =
    λ e. let both = and_both _ _ e in two-plain-is c.args.line.now c.args.i c.requires both.0 both.1
