-- `quick::sift` meets its contract: each return is the case that its test picks. Assumes nothing.
use Rattle.quick.proofs.sift.Goals as goal

pub returns-then-pairs : goal.returns-then-pairs
returns-then-pairs c =
    rw c.if-pairs.true c.sift_each.ensures

pub returns : goal.returns
returns c =
    rw c.if-pairs.false c.sift_each-2.ensures
