-- `reasons::no_better` meets its contract: the two cases joined. Assumes nothing.
use lib.Dec.{leb, ltb}
use Rattle.journeys.specs.Counting.{none}
use Rattle.journeys.specs.VendorLists.{no_better}
use Rattle.reasons.proofs.Reasons.{either-case}
use Rattle.reasons.proofs.no_better.Goals as goal

pub returns : goal.returns
unfolding no_better
returns c =
    let a = c.args in
    either-case (ltb a.listed none) (leb a.listed a.offered) (ltb a.most a.offered)
